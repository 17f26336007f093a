-- The tree: the latest object with some arrows, and the children of a number
use Rattle.std.proofs.Common.{◌≡◌, ℕ, ◌+◌, List, [], ◌∷◌, ◌++◌, Option, Some, None, Bool, true, false, refl, ◌∙◌, ap, sym, append_assoc}
use Rattle.std.proofs.Common.{arith, length, length-append, ◌==◌, ◌&&◌, not, cond, if◌then◌else◌, slice_index_or, filter}
use Rattle.std.proofs.Math.Seq.{get_or-append_seam}
use Rattle.std.specs.List.{range_with_len}
use Rattle.inf_objects.specs.{Tree.children_from, Tree.first_of, declared.objects.Object.Object}
use Rattle.inf_tables.specs.Objects.{has_arrows, latest_from, or_latest}
use Rattle.inf_world_laws.specs.{Declaring.object_of, Families.children, Families.first_number, Things.Thing, Things.latest}
use Rattle.inf_world_laws.specs.Laws.{ChildAgrees, ChildrenAgree, LatestAgree, latest_last, number_or_none}

or_turned : (a b c : Option ℕ) → or_latest (or_latest a b) c ≡ or_latest a (or_latest b c)
or_turned None b c = refl
or_turned (Some n) b c = refl

or_none : (a : Option ℕ) → or_latest a None ≡ a
or_none None = refl
or_none (Some n) = refl

abbrev pub here : Bool → ℕ → Option ℕ
here b n = if b then Some n else None

pub from_end : (a k : ℕ) (xs : List Object) (o : Object)
    → latest_from a k (xs ++ o ∷ []) ≡ or_latest (here (has_arrows a o) (k + length xs)) (latest_from a k xs)
from_end a k [] o = ap (here (has_arrows a o)) (let h : k ≡ k + 0 = omega arith in h) ∙ sym (or_none (here (has_arrows a o) (k + 0)))
from_end a k (x ∷ xs) o = ap (λ l. or_latest l (here (has_arrows a x) k)) (from_end a (k + 1) xs o)
    ∙ or_turned (here (has_arrows a o) (k + 1 + length xs)) (latest_from a (k + 1) xs) (here (has_arrows a x) k)
    ∙ ap (λ n. or_latest (here (has_arrows a o) n) (or_latest (latest_from a (k + 1) xs) (here (has_arrows a x) k)))
    (let h : k + 1 + length xs ≡ k + length (x ∷ xs) = omega arith in h)

last_length : (additive : ℕ → Bool) (name : List ℕ) (before : List Thing) → length (latest_last additive name before) ≡ length before
last_length additive name [] = refl
last_length additive name (t ∷ before) = length-append (latest_last additive name before) (object_of additive name t ∷ [])
    ∙ ap (λ n. n + 1) (last_length additive name before) ∙ (let h : length before + 1 ≡ length (t ∷ before) = omega arith in h)

pub has_is : (additive : ℕ → Bool) (name : List ℕ) (a : ℕ) (t : Thing) (b : Bool) → t.is_class ≡ b
    → has_arrows a (object_of additive name t) ≡ (not t.is_class && t.arrows == a)
has_is additive name a t true e = let h : has_arrows a (object_of additive name t) ≡ (not t.is_class && t.arrows == a) = cc in h
has_is additive name a t false e = let h : has_arrows a (object_of additive name t) ≡ (not t.is_class && t.arrows == a) = cc in h

pub choose : (b : Bool) (n m : ℕ) → or_latest (here b (5 + n)) (number_or_none m) ≡ number_or_none (if b then 5 + n else m)
choose true n m = let h : Some (5 + n) ≡ number_or_none (5 + n) = grind arith in h
choose false n m = refl

pub latest_agree : LatestAgree
latest_agree additive name arrows [] = refl
latest_agree additive name arrows (t ∷ before) =
    let o = object_of additive name t in
    from_end arrows 5 (latest_last additive name before) o
    ∙ ap (λ l. or_latest (here (has_arrows arrows o) (5 + length (latest_last additive name before))) l)
    (latest_agree additive name arrows before)
    ∙ ap (λ n. or_latest (here (has_arrows arrows o) (5 + n)) (number_or_none (latest arrows before)))
    (last_length additive name before)
    ∙ ap (λ b. or_latest (here b (5 + length before)) (number_or_none (latest arrows before)))
    (has_is additive name arrows t t.is_class refl)
    ∙ choose (not t.is_class && t.arrows == arrows) (length before) (latest arrows before)

children_by : (pre xs : List ℕ) (p : ℕ)
    → filter (λ n. slice_index_or (pre ++ xs) n 0 == p) (range_with_len (length pre) (length xs)) ≡ children_from (length pre) p xs
children_by pre [] p = refl
children_by pre (x ∷ xs) p =
    let further : length (pre ++ x ∷ []) ≡ length pre + 1 = length-append pre (x ∷ []) in
    let rest : filter (λ n. slice_index_or (pre ++ x ∷ xs) n 0 == p) (range_with_len (length pre + 1) (length xs))
    ≡ children_from (length pre + 1) p xs =
    ap (λ l. filter (λ n. slice_index_or l n 0 == p) (range_with_len (length pre + 1) (length xs))) (sym (append_assoc pre (x ∷ []) xs))
    ∙ ap (λ k. filter (λ n. slice_index_or ((pre ++ x ∷ []) ++ xs) n 0 == p) (range_with_len k (length xs))) (sym further)
    ∙ children_by (pre ++ x ∷ []) xs p ∙ ap (λ k. children_from k p xs) further in
    let others = filter (λ n. slice_index_or (pre ++ x ∷ xs) n 0 == p) (range_with_len (length pre + 1) (length xs)) in
    ap (λ (y : ℕ). cond (y == p) (length pre ∷ others) others) (get_or-append_seam pre x xs 0)
    ∙ ap (λ (r : List ℕ). cond (x == p) (length pre ∷ r) r) rest

pub children_agree : ChildrenAgree
children_agree above number = children_by (0 ∷ []) above number

pub first_is : (numbers : List ℕ) → first_number numbers ≡ first_of numbers
first_is [] = refl
first_is (n ∷ numbers) = refl

pub child_agrees : ChildAgrees
child_agrees above number = first_is (children above number) ∙ ap first_of (children_agree above number)
