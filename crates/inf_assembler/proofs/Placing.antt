-- Bytes that are moved together.
use Rattle.std.proofs.Common.{◌≡◌, ℕ, ◌+◌, ◌-◌, ◌<◌, ◌≤◌, List, [], ◌∷◌, ◌++◌, length, get_or, take, drop, set, sym, ◌∙◌, ap, arith}
use Rattle.std.proofs.Common.{append_assoc, append-nil, length-append, length-take, length-drop, take-append-drop}
use Rattle.std.proofs.lemmas.List.{take_more, drop_more, drop_at, drop-drop, take_at, take-append-le, take-take}
use Rattle.std.proofs.lemmas.List.{set-append_right}
use Rattle.inf_area.specs.Moves.{moved}
use Rattle.inf_assembler.specs.Closing.{placed_bytes}

-- one more byte is written behind a front
pub written_more : (start i byte : ℕ) (added xs ys : List ℕ) → ys ≡ take start xs ++ take i added ++ drop (start + i) xs →
    i < length added → start + i < length xs → byte ≡ get_or added i 0 →
    set ys (start + i) byte ≡ take start xs ++ take (i + 1) added ++ drop (start + (i + 1)) xs
written_more start i byte added xs ys e within room is =
    let front = take start xs ++ take i added in
    let long : length front ≡ start + i =
    omega (arith, length-append (take start xs) (take i added), length-take start xs, length-take i added) in
    let zeroth : start + i - (start + i) ≡ 0 = omega arith in
    let next : start + i + 1 ≡ start + (i + 1) = omega arith in
    ap (λ zs. set zs (start + i) byte) e ∙ set-append_right front (drop (start + i) xs) (start + i) (start + i) byte long (omega arith)
    ∙ ap (λ k. front ++ set (drop (start + i) xs) k byte) zeroth ∙ ap (λ zs. front ++ set zs 0 byte) (drop_more xs (start + i) 0 room)
    ∙ sym (append_assoc front (byte ∷ []) (drop (start + i + 1) xs))
    ∙ ap (λ zs. zs ++ drop (start + i + 1) xs) (append_assoc (take start xs) (take i added) (byte ∷ []))
    ∙ ap (λ b. take start xs ++ (take i added ++ b ∷ []) ++ drop (start + i + 1) xs) is
    ∙ ap (λ zs. take start xs ++ zs ++ drop (start + i + 1) xs) (sym (take_more added i 0 within))
    ∙ ap (λ k. take start xs ++ take (i + 1) added ++ drop k xs) next

length-front : (to from n : ℕ) (xs : List ℕ) → to ≤ from → from + n ≤ length xs → length (take to xs ++ take n (drop from xs)) ≡ to + n
length-front to from n xs before within =
    omega (arith, length-append (take to xs) (take n (drop from xs)), length-take to xs, length-take n (drop from xs), length-drop from xs)

-- nothing is written yet
pub written_none : (start i : ℕ) (added xs : List ℕ) → i ≡ 0 → xs ≡ take start xs ++ take i added ++ drop (start + i) xs
written_none start i added xs none = sym (take-append-drop start xs) ∙ ap (λ k. take start xs ++ drop k xs) (omega arith)
    ∙ ap (λ zs. zs ++ drop (start + 0) xs) (sym (append-nil (take start xs)))
    ∙ ap (λ k. take start xs ++ take k added ++ drop (start + k) xs) (sym none)

-- bytes are moved, and others are written behind them
pub placed_is : (to from n : ℕ) (added xs : List ℕ) → to ≤ from → from + n ≤ length xs →
    take (to + n) (moved to from n xs) ++ added ++ drop (to + n + length added) (moved to from n xs) ≡ placed_bytes to from n added xs
placed_is to from n added xs before within =
    let front = take to xs ++ take n (drop from xs) in let long = length-front to from n xs before within in
    let behind : drop (to + n + length added) (moved to from n xs) ≡ drop (to + n + length added) xs =
    sym (drop-drop (length added) (to + n) (moved to from n xs)) ∙ ap (drop (length added)) (drop_at front (drop (to + n) xs) (to + n) long)
    ∙ drop-drop (length added) (to + n) xs in
    ap (λ zs. zs ++ added ++ drop (to + n + length added) (moved to from n xs)) (take_at front (drop (to + n) xs) (to + n) long)
    ∙ ap (λ zs. front ++ added ++ zs) behind

-- the parts of bytes that were moved
module _ (to from n : ℕ) (added xs : List ℕ) (before : to ≤ from) (within : from + n ≤ length xs) (room : to + n + length added ≤ length xs)
  where
    length-placed_front : length (take to xs ++ take n (drop from xs) ++ added) ≡ to + n + length added
    length-placed_front = omega (arith, length-front to from n xs before within, length-append (take to xs ++ take n (drop from xs)) added)

    pub length-placed : length (placed_bytes to from n added xs) ≡ length xs
    length-placed = length-append (take to xs ++ take n (drop from xs) ++ added) (drop (to + n + length added) xs)
        ∙ omega (arith, length-placed_front, length-drop (to + n + length added) xs)

    -- the bytes before the place stay
    pub take-placed : (start : ℕ) → start ≤ to → take start (placed_bytes to from n added xs) ≡ take start xs
    take-placed start behind =
        let rest = drop (to + n + length added) xs in
        let long : length (take to xs) ≡ to = omega (arith, length-take to xs) in
        ap (take start) (append_assoc (take to xs ++ take n (drop from xs)) added rest ∙ append_assoc (take to xs) (take n (drop from xs))
        (added ++ rest)) ∙ take-append-le start (take to xs) (take n (drop from xs) ++ (added ++ rest)) (omega (arith, long))
        ∙ take-take start to xs behind

    -- the front of the bytes that were moved
    pub take-placed_all : take (to + n + length added) (placed_bytes to from n added xs) ≡ take to xs ++ take n (drop from xs) ++ added
    take-placed_all =
        take_at (take to xs ++ take n (drop from xs) ++ added) (drop (to + n + length added) xs) (to + n + length added) length-placed_front

    -- the bytes behind the place stay
    pub drop-placed : (place : ℕ) → to + n + length added ≤ place → drop place (placed_bytes to from n added xs) ≡ drop place xs
    drop-placed place behind =
        let here = to + n + length added in let more = place - here in let sum : here + more ≡ place = omega arith in
        ap (λ k. drop k (placed_bytes to from n added xs)) (sym sum) ∙ sym (drop-drop more here (placed_bytes to from n added xs))
        ∙ ap (drop more) (drop_at (take to xs ++ take n (drop from xs) ++ added) (drop here xs) here length-placed_front)
        ∙ drop-drop more here xs ∙ ap (λ k. drop k xs) sum

pub length-moved : (to from n : ℕ) (xs : List ℕ) → to ≤ from → from + n ≤ length xs → length (moved to from n xs) ≡ length xs
length-moved to from n xs before within = length-append (take to xs ++ take n (drop from xs)) (drop (to + n) xs)
    ∙ omega (arith, length-front to from n xs before within, length-drop (to + n) xs)
