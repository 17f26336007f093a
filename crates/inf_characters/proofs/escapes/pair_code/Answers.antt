use Rattle.std.proofs.Common.{◌≡◌, ◌≤◌, ◌∷◌, ◌∙◌, ◌&&◌, false, eqb, ap, sym, arith, List, ℕ}
use Rattle.std.proofs.lemmas.Bool.Decides.{nat_tests}
use Rattle.inf_characters.proofs.Pairs.{pair_from-more}
use Rattle.inf_characters.proofs.escapes.pair_code.Goals.{else-x-a-via-then-x-a+else-y-b, else-x-a-via-else-x-a}
use Rattle.inf_characters.proofs.escapes.pair_code.Goals as goal

pub loop-x-preserved : goal.loop-x-preserved
loop-x-preserved c =
    let x = c.in-Some.x.now in let y = c.in-Some-split_first.y.now in let rest = c.in-Some-split_first.rest.now in
    let split : c.loop-x.pairs.now ≡ x ∷ y ∷ rest =
    c.in-Some.ensures.cases.0 ∙ ap (λ (tail : List ℕ). x ∷ tail) c.in-Some-split_first.ensures.cases.0 in
    let before = rw split at c.loop-x.invariant.0 in let room = rw split at c.loop-x.invariant.1 in
    let differs : (eqb x c.args.a && eqb y c.args.b) ≡ false = elim c.else-x-a.branch [
      | else-x-a-via-then-x-a+else-y-b w ↦ grind (arith, nat_tests)
      | else-x-a-via-else-x-a w ↦ grind (arith, nat_tests)
    ] in
    (sym (pair_from-more c.args.a c.args.b c.loop-x.code x y rest differs) ∙ before, omega arith, omega arith)

pub from_code-requires : goal.from_code-requires
from_code-requires c =
    let x = c.in-Some.x.now in let y = c.in-Some-split_first.y.now in let rest = c.in-Some-split_first.rest.now in
    let split : c.loop-x.pairs.now ≡ x ∷ y ∷ rest =
    c.in-Some.ensures.cases.0 ∙ ap (λ (tail : List ℕ). x ∷ tail) c.in-Some-split_first.ensures.cases.0 in
    let room = rw split at c.loop-x.invariant.1 in let most : c.loop-x.code ≤ 223 = omega arith in
    grind (arith, nat_tests)
