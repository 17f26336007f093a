use Rattle.std.proofs.Common.{◌≡◌, ◌+◌, ◌-◌, ℕ, suc, List, None, OnOk, Option, ap, arith, drop, length, reverse, subst, ◌∙◌}
use Rattle.inf_conditionals.specs.Truths.{Truth, called_behind, with_value}
use Rattle.inf_conditionals.proofs.Backwards.{called_back}
use Rattle.inf_conditionals.proofs.truth.Truth.call_of.Goals as goal

pub returns : goal.returns
returns c =
    let k = c.self.inside in let given = c.args.given in let before = c.len-count.result - given - 1 in
    let t : Truth = record {
      counts = reverse k.counts.items;
      values = reverse k.values.items;
      ahead = k.ahead;
      is_false = k.is_false;
      is_odd = k.is_odd;
    } in
    let all : given + suc before ≡ length k.values.items = omega (arith, c.len-count.ensures, k.values.ok.0, c.if-count-given.false) in
    subst (λ (x : Truth). OnOk c.add.result (c.add.new.self ≡ x))
    (ap (λ (l : List (Option ℕ)). with_value None (reverse l) t) c.truncate.ensures.items ∙ called_back given before k.values.items t all
    ∙ ap (λ (x : Truth). called_behind (drop given x.values) x) c.self.view_is) c.add.ensures
