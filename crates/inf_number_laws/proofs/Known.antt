-- Operators of known numbers: each number that takes the place of one is its meaning.
use Rattle.std.proofs.Common.{◌≡◌, ℕ, zero, suc, List, [], ◌∷◌, Option, Some, None, Bool, true, false, refl, ◌∙◌, ap, sym, subst, arith}
use Rattle.std.specs.Prelude.{◌+◌, ◌==◌, ◌||◌, ◌&&◌, not, cond, if◌then◌else◌, map, nat_lt, ◌/◌, ◌%◌, ◌-◌}
use Rattle.inf_expressions.specs.declared.{operators.Binary.Binary, operators.Operand.Operand, operators.Operation.Operation}
use Rattle.inf_expressions.specs.declared.{operators.Single.Single, operators.Test.Test, operators.Unary.Unary}
use Rattle.inf_expressions.specs.Trees.{Tree, Leaf, One, Two}
use Rattle.inf_expressions.specs.Numbers.{computed, computed_single, holds, magnitude, negated, quotient, remainder, same, truth}
use Rattle.inf_expressions.specs.Folding.{any_holds, any_known, built, folded, folded_single, folded_two, function_of, holds_known, known}
use Rattle.inf_expressions.specs.Folding.{number_or, or_known, sensed}
use Rattle.inf_interpreter.specs.Machine.{World, Store, ◌then◌, divided, is_any, left_over}
use Rattle.inf_meaning_laws.specs.Values.{Arg, Sense, Taker, answer, arg, args, by_threes, compared, compares_three, condition, in_groups}
use Rattle.inf_meaning_laws.specs.Values.{is_not_zero, leaf, nobody, number, one, one_by_one, opposite, sense, tested, two}
use Rattle.inf_number_laws.specs.Known.{AreAlike, FoldingKeeps, FoldingOneKeeps, HasDivisor, IsNumber, IsProper, OneIsComputed}
use Rattle.inf_number_laws.specs.Known.{TwoAreComputed}

some_same : {A : Type 0} {x y : A} → Some x ≡ Some y → x ≡ y
some_same e = cc

-- A right tree that is known is a number.
is_leaf : (a : Tree) (n : ℕ) → IsProper a → known a ≡ Some n → a ≡ Leaf (Operand.Known n)
is_leaf (Leaf (Operand.Known m)) n right e = ap (λ k. Leaf (Operand.Known k)) (some_same e)
is_leaf (Leaf (Operand.Function f)) n right e = elim right [ ]
is_leaf (Leaf Operand.Unknown) n right e = elim right [ ]
is_leaf other n right e = cc

-- Lemmas about operations

abbrev leaf_of : World → ℕ → Sense
leaf_of w n = leaf w (Operand.Known n)

chosen : {A : Type 0} (z c : Bool) (o p q : A) → z ≡ false → cond z None (cond c (Some p) (Some q)) ≡ Some (cond z o (cond c p q))
chosen true c o p q e = cc
chosen false true o p q e = refl
chosen false false o p q e = refl

divided_is : (a b : ℕ) → (b == 0) ≡ false → divided a b ≡ Some (quotient a b)
divided_is a b e =
    chosen (b == 0) (same (nat_lt a 32768) (nat_lt b 32768)) 0 (magnitude a / magnitude b) (negated (magnitude a / magnitude b)) e

left_over_is : (a b : ℕ) → (b == 0) ≡ false → left_over a b ≡ Some (remainder a b)
left_over_is a b e = chosen (b == 0) (nat_lt a 32768) 0 (magnitude a % magnitude b) (negated (magnitude a % magnitude b)) e

-- a meaning that a known result decides
by_result : (f : Option ℕ) (a : Sense) (n : ℕ) → f ≡ Some n → ((take : Taker) (s : Store) → a.value take s ≡ (f then λ m. answer take m s))
    → ((s : Store) → a.alone s ≡ (f then λ m. Some s))
    → ((s : Store) → a.truth s ≡ (f then λ m. Some (not (m == 0), s))) → IsNumber n a
by_result f a n e v al t = record {
  value = λ take s. v take s ∙ ap (λ o. o then λ m. answer take m s) e;
  alone = λ s. al s ∙ ap (λ o. o then λ m. Some s) e;
  truth = λ s. t s ∙ ap (λ o. o then λ m. Some (not (m == 0), s)) e;
}

alone_of : (o : Option ℕ) (s : Store) → ((o then λ m. answer nobody m s) then λ p. Some p.1) ≡ (o then λ m. Some s)
alone_of None s = refl
alone_of (Some m) s = refl

abbrev true_in : ℕ → Store → Option (Bool × Store)
true_in m s = Some (not (m == 0), s)

truth_of : (o : Option ℕ) (s : Store) → is_not_zero (o then λ m. answer nobody m s) ≡ (o then λ m. true_in m s)
truth_of None s = refl
truth_of (Some m) s = refl

not_zero : (b : ℕ) → (Some b ≡ Some 0 → ⊥) → (b == 0) ≡ false
not_zero zero h = elim (h refl) [ ]
not_zero (suc b) h = grind arith

operation_is : (w : World) (o : Operation) (a b n : ℕ) → HasDivisor (Binary.Operation o) (Leaf (Operand.Known b)) → computed o a b ≡ Some n
    → IsNumber n (two w (Binary.Operation o) (leaf_of w a) (leaf_of w b))
operation_is w Operation.Add a b n d e = by_result (computed Operation.Add a b) _ n e (λ take s. refl) (λ s. refl) (λ s. refl)
operation_is w Operation.Subtract a b n d e = by_result (computed Operation.Subtract a b) _ n e (λ take s. refl) (λ s. refl) (λ s. refl)
operation_is w Operation.Multiply a b n d e = by_result (computed Operation.Multiply a b) _ n e (λ take s. refl) (λ s. refl) (λ s. refl)
operation_is w Operation.BitAnd a b n d e = by_result (computed Operation.BitAnd a b) _ n e (λ take s. refl) (λ s. refl) (λ s. refl)
operation_is w Operation.BitOr a b n d e = by_result (computed Operation.BitOr a b) _ n e (λ take s. refl) (λ s. refl) (λ s. refl)
operation_is w Operation.Divide a b n d e =
    by_result (divided a b) (two w (Binary.Operation Operation.Divide) (leaf_of w a) (leaf_of w b)) n (divided_is a b (not_zero b d) ∙ e)
    (λ take s. refl) (alone_of (divided a b)) (truth_of (divided a b))
operation_is w Operation.Remainder a b n d e =
    by_result (left_over a b) (two w (Binary.Operation Operation.Remainder) (leaf_of w a) (leaf_of w b)) n
    (left_over_is a b (not_zero b d) ∙ e)
    (λ take s. refl) (alone_of (left_over a b)) (truth_of (left_over a b))
operation_is w Operation.Byte a b n d e = cc
operation_is w Operation.Word a b n d e = cc

-- Lemmas about conditions

truth_decides : (b : Bool) → b ≡ not (truth b == 0)
truth_decides true = refl
truth_decides false = refl

by_truth : (b : Bool) (a : Sense) (n : ℕ) → Some (truth b) ≡ Some n
    → ((take : Taker) (s : Store) → a.value take s ≡ answer take (truth b) s)
    → ((s : Store) → a.alone s ≡ Some s)
    → ((s : Store) → a.truth s ≡ Some (b, s)) → IsNumber n a
by_truth b a n e v al t = record {
  value = λ take s. v take s ∙ ap (λ m. answer take m s) (some_same e);
  alone = al;
  truth = λ s. t s ∙ ap (λ c. Some (c, s)) (truth_decides b) ∙ ap (λ m. Some (not (m == 0), s)) (some_same e);
}

-- a condition whose truth is known in each store
by_condition : (b : Bool) (h : Store → Option (Bool × Store)) (n : ℕ) → Some (truth b) ≡ Some n
    → ((s : Store) → h s ≡ Some (b, s)) → IsNumber n (condition h)
by_condition b h n e t = by_truth b (condition h) n e (λ take s. ap (λ o. o then λ p. answer take (truth p.0) p.1) (t s))
    (λ s. ap (λ o. (o then λ p. answer nobody (truth p.0) p.1) then λ p. Some p.1) (t s)) t

twice : (b : Bool) → not (not b) ≡ b
twice true = refl
twice false = refl

and_is : (x y : Bool) (s : Store) → cond {A = Option (Bool × Store)} x (Some (y, s)) (Some (false, s)) ≡ Some (x && y, s)
and_is true y s = refl
and_is false y s = refl

or_is : (x y : Bool) (s : Store) → cond {A = Option (Bool × Store)} x (Some (true, s)) (Some (y, s)) ≡ Some (x || y, s)
or_is true y s = refl
or_is false y s = refl

-- Tests: the numbers of a list

abbrev numbers : List ℕ → List Arg
numbers ns = map number ns

-- whether a test holds of a number and any of some others
abbrev any_of : Test → ℕ → Bool → List ℕ → Option Bool
any_of t x found [] = Some found
any_of t x found (m ∷ ms) = holds t x m then λ h. any_of t x (found || h) ms

-- a list is of known numbers, one of which a test holds of or not
abbrev IsList : World → Test → ℕ → Bool → Tree → Bool → Type 0
IsList w t x found b r = (m : ℕ) × (ms : List ℕ) × (args (sense w b) ≡ numbers (m ∷ ms)) × (any_of t x found (m ∷ ms) ≡ Some r)

held : (t : Test) (x : ℕ) (a : Tree) (h : Bool) → IsProper a → (k : Option ℕ) → known a ≡ k → holds_known t x k ≡ Some h
    → (m : ℕ) × (a ≡ Leaf (Operand.Known m)) × (holds t x m ≡ Some h)
held t x a h right None is e = cc
held t x a h right (Some m) is e = (m, is_leaf a m right is, e)

last_by : (w : World) (t : Test) (x : ℕ) (found : Bool) (b : Tree) (r : Bool) → IsProper b
    → (k : Option Bool) → holds_known t x (known b) ≡ k → or_known (Some found) k ≡ Some r → args (sense w b) ≡ arg (sense w b) ∷ []
    → IsList w t x found b r
last_by w t x found b r right None is e alone = cc
last_by w t x found b r right (Some h) is e alone =
    let o = held t x b h right (known b) refl is in (
      o.0,
      [],
      alone ∙ ap (λ b. arg (sense w b) ∷ []) o.1,
      ap (λ c. c then λ h. Some (found || h)) o.2 ∙ e,
    )

never : (t : Test) (x : ℕ) (b : Tree) → any_holds None t x b ≡ None
never t x (Two Binary.Then a b) = never t x b
never t x other = refl

more_by : (w : World) (t : Test) (x : ℕ) (found : Bool) (a others : Tree) (r : Bool) → IsProper a
    → ((f : Bool) → any_holds (Some f) t x others ≡ Some r → IsList w t x f others r)
    → (k : Option Bool) → holds_known t x (known a) ≡ k → any_holds (or_known (Some found) k) t x others ≡ Some r
    → IsList w t x found (Two Binary.Then a others) r
more_by w t x found a others r right behind None is e = let n : any_holds None t x others ≡ None = never t x others in cc
more_by w t x found a others r right behind (Some h) is e =
    let o = held t x a h right (known a) refl is in
    let i = behind (found || h) e in (
      o.0,
      i.0 ∷ i.1,
      ap (λ a. arg (sense w a) ∷ args (sense w others)) o.1 ∙ ap (λ l. number o.0 ∷ l) i.2,
      ap (λ c. c then λ h. any_of t x (found || h) (i.0 ∷ i.1)) o.2 ∙ i.3,
    )

list_is : (w : World) (t : Test) (x : ℕ) (b : Tree) (found r : Bool) → IsProper b → any_holds (Some found) t x b ≡ Some r
    → IsList w t x found b r
list_is w t x (Leaf y) found r right e = last_by w t x found (Leaf y) r right _ refl e refl
list_is w t x (Two Binary.Then a b) found r right e =
    more_by w t x found a b r right.0 (λ f. list_is w t x b f r right.1) (holds_known t x (known a)) refl e
list_is w t x other found r right e = cc

-- Tests: as they are run

or_nothing : (a : Bool) → a || false ≡ a
or_nothing true = refl
or_nothing false = refl

or_turned : (a b c : Bool) → (a || b) || c ≡ a || (b || c)
or_turned true b c = refl
or_turned false b c = refl

tests_is : (w : World) (t : Test) (x m : ℕ) (h : Bool) (s : Store) → holds t x m ≡ Some h
    → tested w t (number x ∷ number m ∷ []) s ≡ Some (h, s)
tests_is w Test.Equal x m h s e = ap (λ b. Some (b, s)) (or_nothing (x == m) ∙ some_same e)
tests_is w Test.Has x m h s e = cc
tests_is w Test.In x m h s e = cc
tests_is w Test.OfClass x m h s e = cc
tests_is w Test.Provides x m h s e = cc
tests_is w other x m h s e = ap (λ b. Some (b, s)) (some_same e)

abbrev IsRun : World → Test → ℕ → ℕ → List ℕ → Bool → Bool → Store → Type 0
IsRun w t x m ms found r s = (q : Bool) × (one_by_one w t (number x) (numbers (m ∷ ms)) s ≡ Some (q, s)) × (found || q ≡ r)

one_run : (w : World) (t : Test) (x m : ℕ) (found r : Bool) (s : Store)
    → (k : Option Bool) → holds t x m ≡ k → (k then λ h. Some (found || h)) ≡ Some r → IsRun w t x m [] found r s
one_run w t x m found r s None is e = cc
one_run w t x m found r s (Some h) is e = (h, tests_is w t x m h s is, some_same e)

more_run : (w : World) (t : Test) (x m n : ℕ) (ms : List ℕ) (found r : Bool) (s : Store)
    → ((f : Bool) → any_of t x f (n ∷ ms) ≡ Some r → IsRun w t x n ms f r s)
    → (k : Option Bool) → holds t x m ≡ k → (k then λ h. any_of t x (found || h) (n ∷ ms)) ≡ Some r → IsRun w t x m (n ∷ ms) found r s
more_run w t x m n ms found r s behind None is e = cc
more_run w t x m n ms found r s behind (Some h) is e =
    let i = behind (found || h) e in (
      h || i.0,
      ap (λ o. o then λ p. if p.0 then Some (true, p.1) else one_by_one w t (number x) (numbers (n ∷ ms)) p.1) (tests_is w t x m h s is)
          ∙ ap (λ o. cond {A = Option (Bool × Store)} h (Some (true, s)) o) i.1 ∙ or_is h i.0 s,
      sym (or_turned found h i.0) ∙ i.2,
    )

runs : (w : World) (t : Test) (x m : ℕ) (ms : List ℕ) (found r : Bool) (s : Store) → any_of t x found (m ∷ ms) ≡ Some r
    → IsRun w t x m ms found r s
runs w t x m [] found r s e = one_run w t x m found r s (holds t x m) refl e
runs w t x m (n ∷ ms) found r s e = more_run w t x m n ms found r s (λ f. runs w t x n ms f r s) (holds t x m) refl e

equal_is : (x : ℕ) (found : Bool) (ms : List ℕ) → any_of Test.Equal x found ms ≡ Some (found || is_any x ms)
equal_is x found [] = ap Some (sym (or_nothing found))
equal_is x found (m ∷ ms) = equal_is x (found || (x == m)) ms ∙ ap Some (or_turned found (x == m) (is_any x ms))

three_is : (a b c q : Bool) (s : Store)
    → cond {A = Option (Bool × Store)} (a || (b || (c || false))) (Some (true, s)) (Some (q, s)) ≡ Some (a || (b || (c || q)), s)
three_is true b c q s = refl
three_is false true c q s = refl
three_is false false true q s = refl
three_is false false false q s = refl

threes : (w : World) (x m : ℕ) (ms : List ℕ) (s : Store) → by_threes w (number x) (numbers (m ∷ ms)) s ≡ Some (is_any x (m ∷ ms), s)
threes w x m (n ∷ o ∷ p ∷ ms) s =
    ap (λ r. cond {A = Option (Bool × Store)} ((x == m) || ((x == n) || ((x == o) || false))) (Some (true, s)) r) (threes w x p ms s)
    ∙ three_is (x == m) (x == n) (x == o) (is_any x (p ∷ ms)) s
threes w x m other s = refl

grouped : (w : World) (t : Test) (x m : ℕ) (ms : List ℕ) (r : Bool) (s : Store) → any_of t x false (m ∷ ms) ≡ Some r
    → in_groups (compares_three t) w t (number x) (numbers (m ∷ ms)) s ≡ Some (r, s)
grouped w Test.Equal x m ms r s e = threes w x m ms s ∙ ap (λ b. Some (b, s)) (some_same (sym (equal_is x false (m ∷ ms)) ∙ e))
grouped w Test.Less x m ms r s e = let o = runs w Test.Less x m ms false r s e in o.1 ∙ ap (λ b. Some (b, s)) o.2
grouped w Test.Greater x m ms r s e = let o = runs w Test.Greater x m ms false r s e in o.1 ∙ ap (λ b. Some (b, s)) o.2
grouped w Test.AtMost x m ms r s e = let o = runs w Test.AtMost x m ms false r s e in o.1 ∙ ap (λ b. Some (b, s)) o.2
grouped w Test.AtLeast x m ms r s e = let o = runs w Test.AtLeast x m ms false r s e in o.1 ∙ ap (λ b. Some (b, s)) o.2
grouped w Test.Has x m ms r s e = let o = runs w Test.Has x m ms false r s e in o.1 ∙ ap (λ b. Some (b, s)) o.2
grouped w Test.In x m ms r s e = let o = runs w Test.In x m ms false r s e in o.1 ∙ ap (λ b. Some (b, s)) o.2
grouped w Test.OfClass x m ms r s e = let o = runs w Test.OfClass x m ms false r s e in o.1 ∙ ap (λ b. Some (b, s)) o.2
grouped w Test.Provides x m ms r s e = let o = runs w Test.Provides x m ms false r s e in o.1 ∙ ap (λ b. Some (b, s)) o.2

-- what a list is compared with is a known number
compares : (w : World) (t : Test) (x : ℕ) (b : Tree) (r : Bool) → IsProper b → any_holds (Some false) t x b ≡ Some r
    → (s : Store) → compared w t (leaf_of w x).leaf (leaf_of w x) (args (sense w b)) s ≡ Some (r, s)
compares w t x b r right e s =
    let l = list_is w t x b false r right e in
    ap (λ others. in_groups (compares_three t) w t (number x) others s) l.2 ∙ grouped w t x l.0 l.1 r s l.3

same_true_is : (r : Bool) → r ≡ same r true
same_true_is true = refl
same_true_is false = refl

same_false_is : (r : Bool) → not r ≡ same r false
same_false_is true = refl
same_false_is false = refl

test_is : (w : World) (t : Test) (x : ℕ) (b : Tree) (n : ℕ) → IsProper b → (k : Option Bool) → any_holds (Some false) t x b ≡ k
    → sensed true k ≡ Some n → IsNumber n (two w (Binary.Test t) (leaf_of w x) (sense w b))
test_is w t x b n right None is e = cc
test_is w t x b n right (Some r) is e =
    by_condition r (compared w t (leaf_of w x).leaf (leaf_of w x) (args (sense w b))) n (ap (λ b. Some (truth b)) (same_true_is r) ∙ e)
    (compares w t x b r right is)

fails_is : (w : World) (t : Test) (x : ℕ) (b : Tree) (n : ℕ) → IsProper b → (k : Option Bool) → any_holds (Some false) t x b ≡ k
    → sensed false k ≡ Some n → IsNumber n (two w (Binary.Fails t) (leaf_of w x) (sense w b))
fails_is w t x b n right None is e = cc
fails_is w t x b n right (Some r) is e =
    by_condition (not r) (opposite (compared w t (leaf_of w x).leaf (leaf_of w x) (args (sense w b)))) n
    (ap (λ b. Some (truth b)) (same_false_is r) ∙ e)
    (λ s. ap (λ o. o then λ p. Some (not p.0, p.1)) (compares w t x b r right is s))

-- Lemmas about all operators

-- the numbers of two known operands
record AreTwo (f : Option ℕ → Option ℕ → Option ℕ) (a b : Tree) (n : ℕ) : Type 0 where
  x : ℕ
  y : ℕ
  first : a ≡ Leaf (Operand.Known x)
  second : b ≡ Leaf (Operand.Known y)
  gives : f (Some x) (Some y) ≡ Some n

are_two : (f : Option ℕ → Option ℕ → Option ℕ) → ((k : Option ℕ) → f None k ≡ None) → ((x : ℕ) → f (Some x) None ≡ None)
    → (a b : Tree) (n : ℕ) → IsProper a → IsProper b → (j k : Option ℕ) → known a ≡ j → known b ≡ k → f j k ≡ Some n → AreTwo f a b n
are_two f left behind a b n ra rb None k ja kb e = let h : f None k ≡ None = left k in cc
are_two f left behind a b n ra rb (Some x) None ja kb e = let h : f (Some x) None ≡ None = behind x in cc
are_two f left behind a b n ra rb (Some x) (Some y) ja kb e =
    record { x = x; y = y; first = is_leaf a x ra ja; second = is_leaf b y rb kb; gives = e }

operates : (w : World) (o : Operation) (a b : Tree) (n : ℕ) → HasDivisor (Binary.Operation o) b
    → AreTwo (folded_two (Binary.Operation o)) a b n
    → IsNumber n (two w (Binary.Operation o) (sense w a) (sense w b))
operates w o a b n d t = subst (λ a. IsNumber n (two w (Binary.Operation o) (sense w a) (sense w b))) (sym t.first)
    (subst (λ b. IsNumber n (two w (Binary.Operation o) (leaf_of w t.x) (sense w b))) (sym t.second)
    (operation_is w o t.x t.y n (subst (λ b. HasDivisor (Binary.Operation o) b) t.second d) t.gives))

tested_by : (w : World) (t : Test) (a b : Tree) (n : ℕ) → IsProper a → IsProper b → (k : Option ℕ) → known a ≡ k
    → sensed true (any_known t k b) ≡ Some n → IsNumber n (two w (Binary.Test t) (sense w a) (sense w b))
tested_by w t a b n ra rb None is e = cc
tested_by w t a b n ra rb (Some x) is e =
    subst (λ a. IsNumber n (two w (Binary.Test t) (sense w a) (sense w b))) (sym (is_leaf a x ra is)) (test_is w t x b n rb _ refl e)

failed_by : (w : World) (t : Test) (a b : Tree) (n : ℕ) → IsProper a → IsProper b → (k : Option ℕ) → known a ≡ k
    → sensed false (any_known t k b) ≡ Some n → IsNumber n (two w (Binary.Fails t) (sense w a) (sense w b))
failed_by w t a b n ra rb None is e = cc
failed_by w t a b n ra rb (Some x) is e =
    subst (λ a. IsNumber n (two w (Binary.Fails t) (sense w a) (sense w b))) (sym (is_leaf a x ra is)) (fails_is w t x b n rb _ refl e)

conjoined : (w : World) (x y n : ℕ) → Some (truth (not (x == 0) && not (y == 0))) ≡ Some n
    → IsNumber n (two w Binary.And (leaf_of w x) (leaf_of w y))
conjoined w x y n e = by_condition (not (x == 0) && not (y == 0)) _ n e (λ s. and_is (not (x == 0)) (not (y == 0)) s)

disjoined : (w : World) (x y n : ℕ) → Some (truth (not (x == 0) || not (y == 0))) ≡ Some n
    → IsNumber n (two w Binary.Or (leaf_of w x) (leaf_of w y))
disjoined w x y n e = by_condition (not (x == 0) || not (y == 0)) _ n e (λ s. or_is (not (x == 0)) (not (y == 0)) s)

pub known_is : TwoAreComputed
known_is w (Binary.Operation o) a b n ra rb d e =
    operates w o a b n d (are_two (folded_two (Binary.Operation o)) (λ k. refl) (λ x. refl) a b n ra rb (known a) (known b) refl refl e)
known_is w (Binary.Test t) a b n ra rb d e = tested_by w t a b n ra rb (known a) refl e
known_is w (Binary.Fails t) a b n ra rb d e = failed_by w t a b n ra rb (known a) refl e
known_is w Binary.And a b n ra rb d e =
    let t = are_two (folded_two Binary.And) (λ k. refl) (λ x. refl) a b n ra rb (known a) (known b) refl refl e in
    subst (λ a. IsNumber n (two w Binary.And (sense w a) (sense w b))) (sym t.first)
    (subst (λ b. IsNumber n (two w Binary.And (leaf_of w t.x) (sense w b))) (sym t.second) (conjoined w t.x t.y n t.gives))
known_is w Binary.Or a b n ra rb d e =
    let t = are_two (folded_two Binary.Or) (λ k. refl) (λ x. refl) a b n ra rb (known a) (known b) refl refl e in
    subst (λ a. IsNumber n (two w Binary.Or (sense w a) (sense w b))) (sym t.first)
    (subst (λ b. IsNumber n (two w Binary.Or (leaf_of w t.x) (sense w b))) (sym t.second) (disjoined w t.x t.y n t.gives))
known_is w other a b n ra rb d e = cc

one_is : (w : World) (op : Unary) (x n : ℕ) → computed_single op x ≡ Some n → IsNumber n (one w op (leaf_of w x))
one_is w Unary.Negate x n e =
    let same_one : (0 + negated x) % 65536 ≡ negated x = omega arith in
    by_result (Some ((0 + negated x) % 65536)) (one w Unary.Negate (leaf_of w x)) n (ap Some same_one ∙ e)
    (λ take s. refl) (λ s. refl) (λ s. refl)
one_is w Unary.Not x n e = by_condition (x == 0) _ n e (λ s. ap (λ b. Some (b, s)) (twice (x == 0)))
one_is w (Unary.Single Single.Complement) x n e =
    by_result (Some (65535 - x)) (one w (Unary.Single Single.Complement) (leaf_of w x)) n e (λ take s. refl) (λ s. refl) (λ s. refl)
one_is w other x n e = cc

one_by : (w : World) (op : Unary) (a : Tree) (n : ℕ) → IsProper a → (k : Option ℕ) → known a ≡ k → folded_single op k ≡ Some n
    → IsNumber n (one w op (sense w a))
one_by w op a n right None is e = cc
one_by w op a n right (Some x) is e = subst (λ a. IsNumber n (one w op (sense w a))) (sym (is_leaf a x right is)) (one_is w op x n e)

pub known_one : OneIsComputed
known_one w op a n right e = one_by w op a n right (known a) refl e

-- A tree means what it meant, where its number, if it has one, is its meaning.
alike_by : (w : World) (f : Option ℕ) (t : Tree) → ((n : ℕ) → f ≡ Some n → IsNumber n (sense w t))
    → AreAlike (sense w (number_or f t)) (sense w t)
alike_by w None t is = record { value = λ take s. refl; alone = λ s. refl; truth = λ s. refl }
alike_by w (Some n) t is =
    let i = is n refl in record { value = λ take s. sym (i.value take s); alone = λ s. sym (i.alone s); truth = λ s. sym (i.truth s) }

pub two_stay : FoldingKeeps
two_stay w op a b ra rb d = alike_by w (folded op a b) (built op (function_of a) a b) (λ n e. known_is w op a b n ra rb d e)

pub one_stays : FoldingOneKeeps
one_stays w op a right = alike_by w (folded_single op (known a)) (One op a) (λ n e. known_one w op a n right e)
