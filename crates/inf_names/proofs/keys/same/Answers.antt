use Rattle.std.proofs.lemmas.Bool.{and_parts, and_from}
use Rattle.inf_names.proofs.KeyBytes.{same_truth, same_words}
use Rattle.inf_names.proofs.keys.same.Goals as goal

pub returns : goal.returns
returns c =
    let all = same_words c.args.a.now c.args.b.now
    c.same_at.result c.same_at-2.result c.same_at-3.result c.same_at-4.result c.same_at-5.result c.told-a c.told-b
    c.same_at.ensures c.same_at-2.ensures c.same_at-3.ensures c.same_at-4.ensures c.same_at-5.ensures in
    same_truth _ c.args.a.now c.args.b.now (λ e.
    let four = and_parts _ _ e in let three = and_parts _ _ four.0 in let two = and_parts _ _ three.0 in
    let one = and_parts _ _ two.0 in
    all.0 (one.0, (one.1, (two.1, (three.1, four.1)))))
    (λ e. let h = all.1 e in and_from _ _ (and_from _ _ (and_from _ _ (and_from _ _ h.0 h.1.0) h.1.1.0) h.1.1.1.0) h.1.1.1.1)
