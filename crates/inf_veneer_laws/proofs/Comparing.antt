-- The routine that compares two numbers without a sign.
use Rattle.std.proofs.Common.{arith, ◌≡◌, ◌<◌, ◌≤◌, ℕ, ◌+◌, ◌-◌, [], ◌∷◌, Option, Bool, true, false, not, refl, ◌∙◌, ap, sym}
use Rattle.std.proofs.lemmas.Bool.{le-ltb, leb-false, leb-true, lt-ltb, ltb-false, ltb-true}
use Rattle.std.specs.Prelude.{◌==◌, ◌&&◌, nat_le, nat_lt, if◌then◌else◌}
use Rattle.inf_expressions.specs.{Numbers.shifted, Trees.Leaf, Trees.One, Trees.Tree, Trees.Two, declared.operators.Binary.Binary}
use Rattle.inf_expressions.specs.{declared.operators.Operand.Operand, declared.operators.Test.Test, declared.operators.Unary.Unary}
use Rattle.inf_interpreter.specs.Machine.{Store, World, ◌then◌, less}
use Rattle.inf_meaning_laws.specs.Values.{truth_of}
use Rattle.inf_control_laws.specs.Control.{Effect, Outcome, Returned, Truth, both_run, if_run}
use Rattle.inf_control_laws.specs.Plain.{return_run}
use Rattle.inf_veneer_laws.specs.{Classes.NumbersAreCompared, Classes.order, Routines.compare}
use Rattle.inf_veneer_laws.specs.Running.{Numbers, called_with, ended, entered}
use Rattle.inf_veneer_laws.proofs.Flow.{comes_to, guard_passes, guard_returns, is_found, or_false, returns_with}
use Rattle.inf_veneer_laws.proofs.Locals.{entered_left}

-- a condition that is known, behind which one of two values is returned
pub guard_value : (holds : Truth) (body rest : Effect) (s : Store) (n m : ℕ) (b : Bool) → holds s ≡ is_found s b →
    body s ≡ comes_to (Returned n) s → rest s ≡ comes_to (Returned m) s →
    both_run (if_run holds body) rest s ≡ comes_to (Returned (if b then n else m)) s
guard_value holds body rest s n m true e f g = guard_returns holds body rest s s n e f
guard_value holds body rest s n m false e f g = guard_passes holds body rest s e ∙ g

pub both_found : (s : Store) (b c : Bool) → (if b then is_found s c else is_found s false) ≡ is_found s (b && c)
both_found s true c = refl
both_found s false c = refl

-- Lemmas about the order with signs, by the sides of 32768

pub below : (x : ℕ) → x < 32768 → shifted x ≡ x + 32768
below x h = omega (arith, h)

above : (x : ℕ) → 32768 ≤ x → x < 65536 → shifted x ≡ x - 32768
above x h few = omega (arith, h, few)

negative_by : (x : ℕ) → x < 65536 → (b : Bool) → nat_le 32768 x ≡ b → less x 0 ≡ b
negative_by x few true e = lt-ltb (shifted x) 32768 (omega (arith, above x (leb-true 32768 x e) few, few))
negative_by x few false e = le-ltb (shifted x) 32768 (omega (arith, below x (leb-false 32768 x e)))

pub same_side : (x y : ℕ) → shifted x + y ≡ shifted y + x → less x y ≡ nat_lt x y
same_side x y e = go (nat_lt x y) refl
  where
    go : (b : Bool) → nat_lt x y ≡ b → less x y ≡ b
    go true f = lt-ltb (shifted x) (shifted y) (omega (arith, e, ltb-true x y f))
    go false f = le-ltb (shifted x) (shifted y) (omega (arith, e, ltb-false x y f))

-- the result of the text, by its conditions
abbrev text_order : ℕ → ℕ → ℕ
text_order x y = if x == y then 0 else if less x 0 && not (less y 0) then 1 else if not (less x 0) && less y 0 then 65535
    else if less y x then 1
    else 65535

abbrev order_by : Bool → Bool → Bool → Bool → ℕ
order_by e a b c = if e then 0 else if a && not b then 1 else if not a && b then 65535 else if c then 1 else 65535

orders_by : (x y : ℕ) → x < 65536 → y < 65536 → (a b : Bool) → nat_le 32768 x ≡ a → nat_le 32768 y ≡ b →
    order_by (x == y) a b (less y x) ≡ order x y
orders_by x y fx fy true true e f = ap (λ (c : Bool). if x == y then 0 else if c then 1 else 65535) (same_side y x
    (omega (arith, above x (leb-true 32768 x e) fx, above y (leb-true 32768 y f) fy, leb-true 32768 x e, leb-true 32768 y f)))
orders_by x y fx fy true false e f = ap (λ (c : Bool). if x == y then 0 else if c then 1 else 65535)
    (sym (lt-ltb y x (omega (arith, leb-true 32768 x e, leb-false 32768 y f))))
orders_by x y fx fy false true e f = ap (λ (c : Bool). if x == y then 0 else if c then 1 else 65535)
    (sym (le-ltb y x (omega (arith, leb-false 32768 x e, leb-true 32768 y f))))
orders_by x y fx fy false false e f = ap (λ (c : Bool). if x == y then 0 else if c then 1 else 65535)
    (same_side y x (omega (arith, below x (leb-false 32768 x e), below y (leb-false 32768 y f))))

orders : (x y : ℕ) → x < 65536 → y < 65536 → text_order x y ≡ order x y
orders x y fx fy = ap (λ (a : Bool). order_by (x == y) a (less y 0) (less y x)) (negative_by x fx (nat_le 32768 x) refl)
    ∙ ap (λ (b : Bool). order_by (x == y) (nat_le 32768 x) b (less y x)) (negative_by y fy (nat_le 32768 y) refl)
    ∙ orders_by x y fx fy (nat_le 32768 x) (nat_le 32768 y) refl refl

-- The statements: the numbers are the variables 1 and 2.

abbrev pub tests : World → Test → Tree → Tree → Truth
tests w t a b = truth_of w (Two (Binary.Test t) a b)

abbrev pub number_returned : World → ℕ → Effect
number_returned w n = return_run w (Leaf (Operand.Known n) ∷ [])

abbrev minus_returned : World → Effect
minus_returned w = return_run w (One Unary.Negate (Leaf (Operand.Known 1)) ∷ [])

abbrev same_numbers : World → Truth
same_numbers w = tests w Test.Equal (Leaf (Operand.Variable 1)) (Leaf (Operand.Variable 2))

abbrev first_negative : World → Truth
first_negative w = truth_of w (Two Binary.And (Two (Binary.Test Test.Less) (Leaf (Operand.Variable 1)) (Leaf (Operand.Known 0)))
    (Two (Binary.Test Test.AtLeast) (Leaf (Operand.Variable 2)) (Leaf (Operand.Known 0))))

abbrev second_negative : World → Truth
second_negative w = truth_of w (Two Binary.And (Two (Binary.Test Test.AtLeast) (Leaf (Operand.Variable 1)) (Leaf (Operand.Known 0)))
    (Two (Binary.Test Test.Less) (Leaf (Operand.Variable 2)) (Leaf (Operand.Known 0))))

abbrev first_more : World → Truth
first_more w = tests w Test.Greater (Leaf (Operand.Variable 1)) (Leaf (Operand.Variable 2))

abbrev by_signs : World → Effect
by_signs w = both_run (if_run (first_more w) (number_returned w 1)) (minus_returned w)

abbrev by_second : World → Effect
by_second w = both_run (if_run (second_negative w) (minus_returned w)) (by_signs w)

abbrev by_first : World → Effect
by_first w = both_run (if_run (first_negative w) (number_returned w 1)) (by_second w)

compared : (w : World) (s : Store) → both_run (if_run (same_numbers w) (number_returned w 0)) (by_first w) s
    ≡ comes_to (Returned (text_order (s.variables 1) (s.variables 2))) s
compared w s =
    let x = s.variables 1 in
    let y = s.variables 2 in
    let signs = if less y x then 1 else 65535 in
    let seconds = if not (less x 0) && less y 0 then 65535 else signs in
    let firsts = if less x 0 && not (less y 0) then 1 else seconds in
    let a : by_signs w s ≡ comes_to (Returned signs) s =
    guard_value (first_more w) (number_returned w 1) (minus_returned w) s 1 65535 (less y x) refl refl refl in
    let b : by_second w s ≡ comes_to (Returned seconds) s =
    guard_value (second_negative w) (minus_returned w) (by_signs w) s 65535 signs (not (less x 0) && less y 0)
    (both_found s (not (less x 0)) (less y 0)) refl a in
    let c : by_first w s ≡ comes_to (Returned firsts) s =
    guard_value (first_negative w) (number_returned w 1) (by_second w) s 1 seconds (less x 0 && not (less y 0))
    (both_found s (less x 0) (not (less y 0))) refl b in
    guard_value (same_numbers w) (number_returned w 0) (by_first w) s 0 firsts (x == y) (ap (is_found s) (or_false (x == y))) refl c

numbers_compared : (w : World) (numbers : Numbers) (turns x y : ℕ) (s : Store) →
    called_with w numbers turns compare (x ∷ y ∷ []) s ≡ returns_with (text_order x y) s
numbers_compared w numbers turns x y s =
    let ns = x ∷ y ∷ [] in
    ap (λ (m : Option (Outcome × Store)). m then ended s) (compared w (entered ns s))
    ∙ ap (returns_with (text_order x y)) (entered_left ns s)

pub numbers_are_compared : NumbersAreCompared
numbers_are_compared w numbers [] s n t e turns enough = absurd e
numbers_are_compared w numbers (x ∷ []) s n t e turns enough = absurd e
numbers_are_compared w numbers (x ∷ y ∷ []) s n t e turns enough = numbers_compared w numbers turns x y s
    ∙ ap (λ (k : ℕ). returns_with k s) (orders x y e.0 e.1 ∙ sym e.2)
    ∙ ap (returns_with n) e.3
numbers_are_compared w numbers (x ∷ y ∷ z ∷ ns) s n t e turns enough = absurd e
