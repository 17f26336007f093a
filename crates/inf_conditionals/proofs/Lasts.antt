-- The last of some conditionals is the first of them backwards.
use Rattle.std.proofs.Common.{◌≡◌, ℕ, ◌-◌, ◌<◌, List, [], ◌∷◌, ◌++◌, length, reverse, get_or, refl, sym, ap, ◌∙◌, arith, slice_set}
use Rattle.std.proofs.lemmas.List.{get_or-reverse, length-reverse, reverse-append, reverse-reverse, set-append_right}
use Rattle.inf_sources.specs.declared.open_file.Conditional.{Conditional}

-- all conditionals behind the first
abbrev pub rest_of : List Conditional → List Conditional
rest_of [] = []
rest_of (x ∷ xs) = xs

front_is : (ys : List Conditional) (x : Conditional) → 0 < length ys → get_or ys 0 x ≡ x → ys ≡ x ∷ rest_of ys
front_is [] x some first = absurd (omega (arith, some))
front_is (y ∷ ys) x some first = ap (λ z. z ∷ ys) first

pub last_is : (xs : List Conditional) (x : Conditional) → 0 < length xs → x ≡ get_or xs (length xs - 1) x →
    reverse xs ≡ x ∷ rest_of (reverse xs)
last_is xs x some last =
    let same : length (reverse xs) ≡ length xs = length-reverse xs in
    let place : length xs - 1 - 0 ≡ length xs - 1 = omega arith in
    front_is (reverse xs) x (omega (arith, some, same)) (get_or-reverse xs 0 x some ∙ ap (λ n. get_or xs n x) place ∙ sym last)

set_at : (ys : List Conditional) (y z : Conditional) (n : ℕ) → n ≡ length (reverse ys) →
    slice_set (reverse ys ++ y ∷ []) n z ≡ reverse ys ++ z ∷ []
set_at ys y z n e =
    let none : n - n ≡ 0 = omega arith in
    set-append_right (reverse ys) (y ∷ []) n n z (sym e) (omega arith) ∙ ap (λ k. reverse ys ++ slice_set (y ∷ []) k z) none

turned_list : (ys : List Conditional) (y z : Conditional) →
    reverse (slice_set (reverse (y ∷ ys)) (length (reverse (y ∷ ys)) - 1) z) ≡ z ∷ ys
turned_list ys y z =
    let split : reverse (y ∷ ys) ≡ reverse ys ++ y ∷ [] = reverse-append (y ∷ []) ys in
    let size : length (reverse (y ∷ ys)) - 1 ≡ length (reverse ys) = omega (arith, length-reverse (y ∷ ys), length-reverse ys) in
    ap (λ n. reverse (slice_set (reverse (y ∷ ys)) n z)) size ∙ ap (λ xs. reverse (slice_set xs (length (reverse ys)) z)) split
    ∙ ap reverse (set_at ys y z (length (reverse ys)) refl) ∙ reverse-append (reverse ys) (z ∷ []) ∙ ap (λ xs. z ∷ xs) (reverse-reverse ys)

-- setting the last of some conditionals sets the first of them backwards
pub last_set : (xs : List Conditional) (x z : Conditional) → 0 < length xs → x ≡ get_or xs (length xs - 1) x →
    reverse (slice_set xs (length xs - 1) z) ≡ z ∷ rest_of (reverse xs)
last_set xs x z some last =
    let back : xs ≡ reverse (x ∷ rest_of (reverse xs)) = sym (reverse-reverse xs) ∙ ap reverse (last_is xs x some last) in
    ap (λ (l : List Conditional). reverse (slice_set l (length l - 1) z)) back ∙ turned_list (rest_of (reverse xs)) x z

-- the last of some conditionals is the first of them backwards, by another count of them
pub last_is_at : (xs : List Conditional) (n : ℕ) (x : Conditional) → n ≡ length xs → 0 < length xs → x ≡ get_or xs (n - 1) x →
    reverse xs ≡ x ∷ rest_of (reverse xs)
last_is_at xs n x e some last = last_is xs x some (last ∙ ap (λ k. get_or xs (k - 1) x) e)

pub last_set_at : (xs : List Conditional) (n : ℕ) (x z : Conditional) → n ≡ length xs → 0 < length xs → x ≡ get_or xs (n - 1) x →
    reverse (slice_set xs (n - 1) z) ≡ z ∷ rest_of (reverse xs)
last_set_at xs n x z e some last =
    ap (λ k. reverse (slice_set xs (k - 1) z)) e ∙ last_set xs x z some (last ∙ ap (λ k. get_or xs (k - 1) x) e)
