-- The counts of code before and behind a routine.
use Rattle.std.proofs.Common.{◌≡◌, ℕ, ◌+◌, ◌-◌, Bool, true, false, if◌then◌else◌, nat_eq, arith, ap, refl, sym, ◌∙◌}
use Rattle.std.proofs.lemmas.Bool.{eq-eqb, eqb-true}
use Rattle.inf_area.specs.Cells.{later_count}
use Rattle.inf_code.specs.Code.{Routines, place_behind}
use Rattle.inf_calls.specs.{Calls.added, declared.cx.Closed.Closed}

-- whether code has begun is seen by the place of its next routine
pub begun : (b : Bool) (size refs : ℕ) → nat_eq ((if b then 8 else 0) + size) (8 + size) ≡ true → (if b then 5 else 4) + refs - 1 ≡ 4 + refs
begun true size refs h = omega arith
begun false size refs h = let never : 0 + size ≡ 8 + size = eqb-true (0 + size) (8 + size) h in omega (arith, never)

pub bare : (b : Bool) (size refs : ℕ) → nat_eq ((if b then 8 else 0) + size) (8 + size) ≡ false → (if b then 5 else 4) + refs ≡ 4 + refs
bare true size refs h = let never : true ≡ false = sym (eq-eqb (8 + size) (8 + size) refl) ∙ h in cc
bare false size refs h = omega arith

cancel : (a b : ℕ) → 4 + a - (4 + b) ≡ a - b
cancel a b = omega arith

stands : ℕ → ℕ → ℕ → Closed
stands start len refs = record { start = start; len = len; refs = refs }

pub added_is : (before now : Routines) (start refs : ℕ) (r : Closed) → start ≡ place_behind before.finished
    → refs ≡ 4 + later_count before.finished
    → r ≡ record { start = start; len = place_behind now.finished - start; refs = 4 + later_count now.finished - refs }
    → r ≡ added before now
unfolding stands
added_is before now start refs r a b h =
    let place = place_behind before.finished in let behind = place_behind now.finished in
    let later = later_count now.finished in
    h ∙ ap (λ n. stands n (behind - n) (4 + later - refs)) a ∙ ap (λ n. stands place (behind - place) (4 + later - n)) b
    ∙ ap (λ n. stands place (behind - place) n) (cancel later (later_count before.finished))
