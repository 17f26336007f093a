-- The routine that tells the kind of thing that a number stands for.
use Rattle.std.proofs.Common.{arith, ◌≡◌, ◌<◌, ℕ, [], ◌∷◌, Option, None, Bool, true, false, not, refl, ◌∙◌, ap, sym}
use Rattle.std.proofs.lemmas.Bool.{eqb-false, eqb-true, le-leb, lt-leb, ltb-false, ltb-true}
use Rattle.std.specs.Prelude.{◌==◌, nat_le, nat_lt, codes, if◌then◌else◌}
use Rattle.inf_area.specs.{declared.targets.SystemConstant.SystemConstant, declared.targets.Target.Target}
use Rattle.inf_expressions.specs.{declared.operators.Binary.Binary, declared.operators.Operand.Operand, declared.operators.Test.Test}
use Rattle.inf_expressions.specs.Trees.{Leaf, Two}
use Rattle.inf_interpreter.specs.Machine.{Store, World, ◌then◌, less}
use Rattle.inf_meaning_laws.specs.Values.{answer, nobody, number, tested}
use Rattle.inf_control_laws.specs.Control.{Effect, Outcome, Returned, Truth, both_run, if_run}
use Rattle.inf_veneer_laws.specs.Classes.{Compares, HasConstants, RegionsAreTold, constant_in, order, region_of}
use Rattle.inf_veneer_laws.specs.Running.{Calls, Numbers, ended, entered}
use Rattle.inf_veneer_laws.proofs.{Comparing.guard_value, Comparing.number_returned, Comparing.tests, Locals.entered_left, Own.returns_0}
use Rattle.inf_veneer_laws.proofs.Flow.{comes_to, is_found, or_false, returns_with}

-- Lemmas about the order of two numbers against 0

at_most_by : (x y : ℕ) (b c : Bool) → (x == y) ≡ b → nat_lt y x ≡ c → not (less 0 (if b then 0 else if c then 1 else 65535)) ≡ nat_le x y
at_most_by x y true c e f = sym (le-leb x y (omega (arith, eqb-true x y e)))
at_most_by x y false true e f = sym (lt-leb x y (ltb-true y x f))
at_most_by x y false false e f = sym (le-leb x y (ltb-false y x f))

at_most : (x y : ℕ) → not (less 0 (order x y)) ≡ nat_le x y
at_most x y = at_most_by x y (x == y) (nat_lt y x) refl refl

less_if_other : (x y : ℕ) → (x ≡ y → ⊥) → nat_lt y x ≡ false → x < y
less_if_other x y other e = omega (arith, other, ltb-false y x e)

at_least_by : (x y : ℕ) (b c : Bool) → (x == y) ≡ b → nat_lt y x ≡ c → not (less (if b then 0 else if c then 1 else 65535) 0) ≡ nat_le y x
at_least_by x y true c e f = sym (le-leb y x (omega (arith, eqb-true x y e)))
at_least_by x y false true e f = sym (le-leb y x (omega (arith, ltb-true y x f)))
at_least_by x y false false e f = sym (lt-leb y x (less_if_other x y (eqb-false x y e) f))

at_least : (x y : ℕ) → not (less (order x y) 0) ≡ nat_le y x
at_least x y = at_least_by x y (x == y) (nat_lt y x) refl refl

-- A condition that compares the number in variable 1 with one of the story

abbrev compares : World → Numbers → Test → SystemConstant → Truth
compares w numbers t c = tests w t (Two Binary.Call (Leaf (Operand.Later (Target.Name (numbers (codes "Unsigned__Compare")))))
    (Two Binary.Then (Leaf (Operand.Variable 1)) (Leaf (Operand.Later (Target.System c))))) (Leaf (Operand.Known 0))

abbrev tested_by : World → Test → Store → Option (ℕ × ℕ × Store) → Option (Bool × Store)
tested_by w t s m = tested w t (record { leaf = None; value = λ u. m then λ r. answer nobody r.0 r.2 } ∷ number 0 ∷ []) s

most_is : (w : World) (numbers : Numbers) → Calls w numbers (codes "Unsigned__Compare") Compares → (s : Store) (c : SystemConstant) →
    s.variables 1 < 65536 → constant_in w c < 65536 →
    compares w numbers Test.AtMost c s ≡ is_found s (nat_le (s.variables 1) (constant_in w c))
most_is w numbers calls s c few bound =
    let x = s.variables 1 in
    let y = constant_in w c in
    ap (tested_by w Test.AtMost s) (calls.comes (x ∷ y ∷ []) s (order x y) s (few, bound, refl, refl)).1
    ∙ ap (is_found s) (at_most x y)

least_is : (w : World) (numbers : Numbers) → Calls w numbers (codes "Unsigned__Compare") Compares → (s : Store) (c : SystemConstant) →
    s.variables 1 < 65536 → constant_in w c < 65536 →
    compares w numbers Test.AtLeast c s ≡ is_found s (nat_le (constant_in w c) (s.variables 1))
least_is w numbers calls s c few bound =
    let x = s.variables 1 in
    let y = constant_in w c in
    ap (tested_by w Test.AtLeast s) (calls.comes (x ∷ y ∷ []) s (order x y) s (few, bound, refl, refl)).1
    ∙ ap (is_found s) (at_least x y)

-- Lemmas about the statements

abbrev is_nothing : World → Truth
is_nothing w = tests w Test.Equal (Leaf (Operand.Variable 1)) (Leaf (Operand.Known 0))

abbrev by_code : World → Numbers → Effect
by_code w numbers = both_run (if_run (compares w numbers Test.AtLeast SystemConstant.CodeOffset) (number_returned w 2)) returns_0

abbrev by_strings : World → Numbers → Effect
by_strings w numbers =
    both_run (if_run (compares w numbers Test.AtLeast SystemConstant.StringsOffset) (number_returned w 3)) (by_code w numbers)

abbrev by_objects : World → Numbers → Effect
by_objects w numbers =
    both_run (if_run (compares w numbers Test.AtMost SystemConstant.HighestObjectNumber) (number_returned w 1)) (by_strings w numbers)

told : (w : World) (numbers : Numbers) → HasConstants w → Calls w numbers (codes "Unsigned__Compare") Compares → (s : Store) →
    s.variables 1 < 65536 →
    both_run (if_run (is_nothing w) returns_0) (by_objects w numbers) s ≡ comes_to (Returned (region_of w (s.variables 1))) s
told w numbers h calls s few =
    let x = s.variables 1 in
    let code = if nat_le (constant_in w SystemConstant.CodeOffset) x then 2 else 0 in
    let strings = if nat_le (constant_in w SystemConstant.StringsOffset) x then 3 else code in
    let objects = if nat_le x (constant_in w SystemConstant.HighestObjectNumber) then 1 else strings in
    let a : by_code w numbers s ≡ comes_to (Returned code) s =
    guard_value (compares w numbers Test.AtLeast SystemConstant.CodeOffset) (number_returned w 2) returns_0 s 2 0
    (nat_le (constant_in w SystemConstant.CodeOffset) x) (least_is w numbers calls s SystemConstant.CodeOffset few h.code) refl refl in
    let b : by_strings w numbers s ≡ comes_to (Returned strings) s =
    guard_value (compares w numbers Test.AtLeast SystemConstant.StringsOffset) (number_returned w 3) (by_code w numbers) s 3 code
    (nat_le (constant_in w SystemConstant.StringsOffset) x)
    (least_is w numbers calls s SystemConstant.StringsOffset few h.strings) refl a in
    let c : by_objects w numbers s ≡ comes_to (Returned objects) s =
    guard_value (compares w numbers Test.AtMost SystemConstant.HighestObjectNumber) (number_returned w 1) (by_strings w numbers) s 1 strings
    (nat_le x (constant_in w SystemConstant.HighestObjectNumber))
    (most_is w numbers calls s SystemConstant.HighestObjectNumber few h.objects) refl b in
    guard_value (is_nothing w) returns_0 (by_objects w numbers) s 0 objects (x == 0) (ap (is_found s) (or_false (x == 0))) refl c

pub regions_are_told : RegionsAreTold
regions_are_told w numbers h calls [] s n t e turns enough = absurd e
regions_are_told w numbers h calls (x ∷ []) s n t e turns enough =
    ap (λ (m : Option (Outcome × Store)). m then ended s) (told w numbers h calls (entered (x ∷ []) s) e.0)
    ∙ ap (returns_with (region_of w x)) (entered_left (x ∷ []) s)
    ∙ ap (λ (k : ℕ). returns_with k s) (sym e.1)
    ∙ ap (returns_with n) e.2
regions_are_told w numbers h calls (x ∷ y ∷ ns) s n t e turns enough = absurd e
