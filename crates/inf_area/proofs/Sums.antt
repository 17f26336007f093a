-- Sums over joined lists, over a list of which an entry is changed, and over one whose entries have no more than others.
use Rattle.std.proofs.Common.{◌≡◌, ℕ, zero, suc, ◌+◌, ◌≤◌, ◌<◌, List, [], ◌∷◌, ◌++◌, length, get_or, set, arith}
use Rattle.inf_area.specs.Sums.{sum_of}

pub sum_of-append : {X : Type 0} (f : X → ℕ) (xs ys : List X) → sum_of f (xs ++ ys) ≡ sum_of f xs + sum_of f ys
sum_of-append f [] ys = omega arith
sum_of-append f (x ∷ xs) ys = omega (arith, sum_of-append f xs ys)

pub sum_of_push : {X : Type 0} (f : X → ℕ) (xs : List X) (x : X) → sum_of f (xs ++ x ∷ []) ≡ sum_of f xs + f x
sum_of_push f xs x = omega (arith, sum_of-append f xs (x ∷ []))

pub sum_of-set : {X : Type 0} (f : X → ℕ) (xs : List X) (n : ℕ) (x d : X) → n < length xs →
    sum_of f (set xs n x) + f (get_or xs n d) ≡ sum_of f xs + f x
sum_of-set f [] n y d within = absurd (omega (arith, within))
sum_of-set f (x ∷ xs) zero y d within = omega arith
sum_of-set f (x ∷ xs) (suc n) y d within = omega (arith, sum_of-set f xs n y d (omega (arith, within)))

pub entry-le-sum_of : {X : Type 0} (f : X → ℕ) (xs : List X) (n : ℕ) (d : X) → n < length xs → f (get_or xs n d) ≤ sum_of f xs
entry-le-sum_of f [] n d within = absurd (omega (arith, within))
entry-le-sum_of f (x ∷ xs) zero d within = omega arith
entry-le-sum_of f (x ∷ xs) (suc n) d within = omega (arith, entry-le-sum_of f xs n d (omega (arith, within)))

pub sum_of-le-sum_of : {X : Type 0} (f g : X → ℕ) (xs : List X) → ((x : X) → f x ≤ g x) → sum_of f xs ≤ sum_of g xs
sum_of-le-sum_of f g [] less = omega arith
sum_of-le-sum_of f g (x ∷ xs) less = omega (arith, less x, sum_of-le-sum_of f g xs less)

-- one entry more in the first of two lists, or behind three
pub sum_of_more_first : {X : Type 0} (f : X → ℕ) (xs ys : List X) (x : X) → sum_of f ((xs ++ x ∷ []) ++ ys) ≡ sum_of f (xs ++ ys) + f x
sum_of_more_first f xs ys x = omega (arith, sum_of-append f (xs ++ x ∷ []) ys, sum_of_push f xs x, sum_of-append f xs ys)

pub sum_of_more_last : {X : Type 0} (f : X → ℕ) (xs ys zs : List X) (x : X) →
    sum_of f (xs ++ (ys ++ (zs ++ x ∷ []))) ≡ sum_of f (xs ++ (ys ++ zs)) + f x
sum_of_more_last f [] [] zs x = sum_of_push f zs x
sum_of_more_last f [] (y ∷ ys) zs x = omega (arith, sum_of_more_last f [] ys zs x)
sum_of_more_last f (y ∷ xs) ys zs x = omega (arith, sum_of_more_last f xs ys zs x)
