-- Codes come back from their numbers, and accented letters from their spellings.
use Rattle.std.proofs.Common.{◌≡◌, ◌<◌, ◌+◌, ◌-◌, ◌*◌, ◌/◌, ◌%◌, ℕ, Bool, true, false, cond, leb, ltb, Some, Ok, List, [], ◌∷◌, refl, ap}
use Rattle.std.proofs.Common.{◌∙◌, arith}
use Rattle.std.proofs.lemmas.Bool.Decides.{nat_tests}
use Rattle.inf_characters.specs.{Characters.is_code, declared.characters.CharSet.CharSet, declared.reading.Mode.Mode}
use Rattle.inf_characters.specs.{declared.texts.TextItem.TextItem}
use Rattle.inf_characters.specs.Reading.{and_then, code_piece, digit_of, escape_piece, number_from, piece_at, spelled, spellings, text_from}
use Rattle.inf_characters.specs.Reading.{text_of}
use Rattle.inf_text_laws.specs.Spelled.{AccentsRead, ComesBack, accents}
use Rattle.inf_characters.proofs.Capped.{number_from-more}

digit : (d : ℕ) → d < 10 → digit_of 10 (48 + d) ≡ Some d
digit d lt =
    let low : leb 48 (48 + d) ≡ true = grind (arith, nat_tests) in
    let high : leb (48 + d) 57 ≡ true = grind (arith, nat_tests) in
    let same : 48 + d - 48 ≡ d = omega arith in
    rw (low, high, same) refl

-- a digit more
more : (count high d : ℕ) (bytes : List ℕ) → d < 10 →
    number_from 10 count high ((48 + d) ∷ bytes) ≡ number_from 10 (count + 1) (10 * high + d) bytes
more count high d bytes lt = number_from-more 10 count high (48 + d) d bytes (digit d lt)

-- digits that write a code
Writes : ℕ → ℕ → List ℕ → Type 0
Writes count n digits = number_from 10 0 0 digits ≡ (count, n)

writes_one : (n : ℕ) → n < 10 → Writes 1 n ((48 + n) ∷ [])
unfolding Writes
writes_one n lt =
    let same : 10 * 0 + n ≡ n = omega arith in
    more 0 0 n [] lt ∙ ap (λ (v : ℕ). (1, v)) same

writes_two : (n : ℕ) → n < 100 → Writes 2 n ((48 + n / 10) ∷ (48 + n % 10) ∷ [])
unfolding Writes
writes_two n lt =
    let same : 10 * (10 * 0 + n / 10) + n % 10 ≡ n = omega arith in
    more 0 0 (n / 10) ((48 + n % 10) ∷ []) (omega arith)
    ∙ more 1 (10 * 0 + n / 10) (n % 10) [] (omega arith)
    ∙ ap (λ (v : ℕ). (2, v)) same

writes_three : (n : ℕ) → n < 1000 → Writes 3 n ((48 + n / 100) ∷ (48 + n / 10 % 10) ∷ (48 + n % 10) ∷ [])
unfolding Writes
writes_three n lt =
    let same : 10 * (10 * (10 * 0 + n / 100) + n / 10 % 10) + n % 10 ≡ n = omega arith in
    more 0 0 (n / 100) ((48 + n / 10 % 10) ∷ (48 + n % 10) ∷ []) (omega arith)
    ∙ more 1 (10 * 0 + n / 100) (n / 10 % 10) ((48 + n % 10) ∷ []) (omega arith)
    ∙ more 2 (10 * (10 * 0 + n / 100) + n / 10 % 10) (n % 10) [] (omega arith)
    ∙ ap (λ (v : ℕ). (3, v)) same

-- the reading of @@ and digits
read : (set : CharSet) (m : Mode) (digits : List ℕ) → text_of set m (64 ∷ 64 ∷ digits) ≡ and_then (code_piece (number_from 10 0 0 digits))
    (λ p. text_from set m p.is_mark p.behind (64 ∷ digits))
unfolding text_of piece_at escape_piece
read set m digits = refl

codes-one : (set : CharSet) (m : Mode) (n a : ℕ) → is_code n ≡ true → Writes 1 n (a ∷ []) →
    text_of set m (64 ∷ 64 ∷ a ∷ []) ≡ Ok (TextItem.Character n ∷ [])
unfolding Writes
codes-one set m n a code written = read set m (a ∷ []) ∙ rw (written, code) refl

codes-two : (set : CharSet) (m : Mode) (n a b : ℕ) → is_code n ≡ true → Writes 2 n (a ∷ b ∷ []) →
    text_of set m (64 ∷ 64 ∷ a ∷ b ∷ []) ≡ Ok (TextItem.Character n ∷ [])
unfolding Writes
codes-two set m n a b code written = read set m (a ∷ b ∷ []) ∙ rw (written, code) refl

codes-three : (set : CharSet) (m : Mode) (n a b c : ℕ) → is_code n ≡ true → Writes 3 n (a ∷ b ∷ c ∷ []) →
    text_of set m (64 ∷ 64 ∷ a ∷ b ∷ c ∷ []) ≡ Ok (TextItem.Character n ∷ [])
unfolding Writes
codes-three set m n a b c code written = read set m (a ∷ b ∷ c ∷ []) ∙ rw (written, code) refl

chosen : (set : CharSet) (m : Mode) (n : ℕ) (t : Bool) (xs ys : List ℕ) →
    (t ≡ true → text_of set m (64 ∷ 64 ∷ xs) ≡ Ok (TextItem.Character n ∷ [])) → text_of set m (64 ∷ 64 ∷ ys) ≡ Ok
    (TextItem.Character n ∷ []) →
    text_of set m (64 ∷ 64 ∷ cond t xs ys) ≡ Ok (TextItem.Character n ∷ [])
chosen set m n true xs ys f g = f refl
chosen set m n false xs ys f g = g

pub comes_back : (set : CharSet) (m : Mode) (n : ℕ) → ComesBack set m n
comes_back set m n is =
    let code : is_code n ≡ true = grind (arith, nat_tests) in
    let most : n < 1000 = grind (arith, nat_tests) in
    chosen set m n (ltb n 10) _ _ (λ e. let lt : n < 10 = grind (arith, nat_tests) in codes-one set m n (48 + n) code (writes_one n lt))
    (chosen set m n (ltb n 100) _ _ (λ e. let lt : n < 100 = grind (arith, nat_tests) in codes-two set m n (48 + n / 10) (48 + n % 10) code
    (writes_two n lt))
    (codes-three set m n (48 + n / 100) (48 + n / 10 % 10) (48 + n % 10) code (writes_three n most)))

pub accents_read : (set : CharSet) (m : Mode) → AccentsRead set m
unfolding accents text_of piece_at escape_piece spelled spellings
accents_read set m = refl
