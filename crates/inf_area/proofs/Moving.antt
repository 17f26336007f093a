-- Bytes that move to the front, one by one.
use Rattle.std.proofs.Common.{◌≡◌, ℕ, ◌+◌, ◌-◌, ◌<◌, ◌≤◌, List, [], ◌∷◌, ◌++◌, length, get_or, take, drop, set, sym, ◌∙◌, ap, arith}
use Rattle.std.proofs.Common.{append_assoc, length-append, length-take, length-drop, get_or-drop, take-append-drop, append-nil}
use Rattle.std.proofs.lemmas.List.{take_more, drop_more, get_or-append_right, set-append_right, take_at, take_all}
use Rattle.inf_area.specs.Moves.{moved}

length-front : (to from k : ℕ) (xs : List ℕ) → to ≤ from → from + k ≤ length xs → length (take to xs ++ take k (drop from xs)) ≡ to + k
length-front to from k xs before within =
    omega (arith, length-append (take to xs) (take k (drop from xs)), length-take to xs, length-take k (drop from xs), length-drop from xs)

-- a byte that is to be moved has not been written over
pub moved_get : (to from k : ℕ) (xs : List ℕ) → to ≤ from → from + k < length xs →
    get_or (moved to from k xs) (from + k) 0 ≡ get_or xs (from + k) 0
moved_get to from k xs before within = get_or-append_right (take to xs ++ take k (drop from xs)) (drop (to + k) xs) (to + k) (from + k) 0
    (length-front to from k xs before (omega arith)) (omega arith) ∙ get_or-drop (to + k) xs (from + k - (to + k)) 0
    ∙ ap (λ i. get_or xs i 0) (omega arith)

-- one more byte is moved
pub moved_more : (to from k byte : ℕ) (xs : List ℕ) → to ≤ from → from + k < length xs → byte ≡ get_or xs (from + k) 0 →
    set (moved to from k xs) (to + k) byte ≡ moved to from (k + 1) xs
moved_more to from k byte xs before within is =
    let front = take to xs ++ take k (drop from xs) in
    let left : k < length (drop from xs) = omega (arith, length-drop from xs) in
    let zeroth : to + k - (to + k) ≡ 0 = omega arith in let next : to + k + 1 ≡ to + (k + 1) = omega arith in
    set-append_right front (drop (to + k) xs) (to + k) (to + k) byte (length-front to from k xs before (omega arith)) (omega arith)
    ∙ ap (λ i. front ++ set (drop (to + k) xs) i byte) zeroth ∙ ap (λ ys. front ++ set ys 0 byte) (drop_more xs (to + k) 0 (omega arith))
    ∙ sym (append_assoc front (byte ∷ []) (drop (to + k + 1) xs))
    ∙ ap (λ ys. ys ++ drop (to + k + 1) xs) (append_assoc (take to xs) (take k (drop from xs)) (byte ∷ []))
    ∙ ap (λ b. take to xs ++ (take k (drop from xs) ++ b ∷ []) ++ drop (to + k + 1) xs) (is ∙ sym (get_or-drop from xs k 0))
    ∙ ap (λ ys. take to xs ++ ys ++ drop (to + k + 1) xs) (sym (take_more (drop from xs) k 0 left))
    ∙ ap (λ i. take to xs ++ take (k + 1) (drop from xs) ++ drop i xs) next

-- nothing is moved yet
pub moved_none : (to from n : ℕ) (xs : List ℕ) → n ≡ 0 → to ≤ from → from ≤ length xs → xs ≡ moved to from n xs
moved_none to from n xs e before within = sym (take-append-drop to xs) ∙ ap (λ i. take to xs ++ drop i xs) (omega arith)
    ∙ ap (λ ys. ys ++ drop (to + 0) xs) (sym (append-nil (take to xs))) ∙ ap (λ i. moved to from i xs) (sym e)

-- the bytes up to the new end are those in front and those that were moved
pub take_moved : (to from n : ℕ) (xs : List ℕ) → to ≤ from → from + n ≡ length xs →
    take (to + n) (moved to from n xs) ≡ take to xs ++ drop from xs
take_moved to from n xs before whole =
    take_at (take to xs ++ take n (drop from xs)) (drop (to + n) xs) (to + n) (length-front to from n xs before (omega arith))
    ∙ ap (λ ys. take to xs ++ ys) (take_all n (drop from xs) (omega (arith, length-drop from xs)))

pub moved_length : (to from n : ℕ) (xs : List ℕ) → to ≤ from → from + n ≤ length xs → length (moved to from n xs) ≡ length xs
moved_length to from n xs before within = length-append (take to xs ++ take n (drop from xs)) (drop (to + n) xs)
    ∙ omega (arith, length-front to from n xs before within, length-drop (to + n) xs)
