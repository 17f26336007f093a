-- A piece is read from its own bytes: those behind it are not looked at, but for where it ends.
use Rattle.std.proofs.Common.{◌≡◌, ◌<◌, ◌≤◌, ◌+◌, ◌*◌, ℕ, zero, suc, Bool, true, false, not, ◌||◌, cond, eqb, ltb, Option, None, Some}
use Rattle.std.proofs.Common.{Result, Ok, Err, List, [], ◌∷◌, ◌++◌, length, take, drop, refl, sym, ap, ◌∙◌, arith}
use Rattle.std.proofs.lemmas.List.{take-append-le}
use Rattle.std.specs.List.{prefix_len}
use Rattle.inf_characters.specs.{declared.characters.CharSet.CharSet, declared.reading.Mode.Mode, declared.reading.Piece.Piece}
use Rattle.inf_characters.specs.{declared.reading.TextFault.TextFault, declared.texts.TextItem.TextItem}
use Rattle.inf_characters.specs.Characters.{is_code, is_white, zscii_of_unicode}
use Rattle.inf_characters.specs.Reading.{accent_piece, character_piece, closes, code_piece, digit_of, escape_piece, number_from, one}
use Rattle.inf_characters.specs.Reading.{piece_at, spaces, spelled, unicode_piece, variable_piece, white_len}

-- a number, where its next byte was looked at
abbrev after_digit : ℕ → ℕ → ℕ → List ℕ → Option ℕ → ℕ × ℕ
after_digit base n high bytes None = (n, high)
after_digit base n high bytes (Some d) = number_from base (n + 1) (base * high + d) bytes

-- digits are only added
number_from-grows : (base n high : ℕ) (bytes : List ℕ) → n ≤ (number_from base n high bytes).0
number_from-grows base n high [] = omega arith
number_from-grows base n high (b ∷ bytes) = go (λ d. number_from-grows base (n + 1) (base * high + d) bytes) (digit_of base b) where
  go : ((d : ℕ) → n + 1 ≤ (number_from base (n + 1) (base * high + d) bytes).0) → (o : Option ℕ) → n ≤ (after_digit base n high bytes o).0
  go more None = omega arith
  go more (Some d) = omega (arith, more d)

-- a number that ends within the first bytes is the one that they write
number_from-cut : (base n high : ℕ) (xs ys : List ℕ) → (number_from base n high (xs ++ ys)).0 ≤ n + length xs →
    number_from base n high (xs ++ ys) ≡ number_from base n high xs
number_from-cut base n high [] [] le = refl
number_from-cut base n high [] (y ∷ ys) le = go (digit_of base y) le where
  go : (o : Option ℕ) → (after_digit base n high ys o).0 ≤ n + 0 → after_digit base n high ys o ≡ (n, high)
  go None le = refl
  go (Some d) le = absurd (omega (arith, number_from-grows base (n + 1) (base * high + d) ys))
number_from-cut base n high (x ∷ xs) ys le = go (λ d. number_from-cut base (n + 1) (base * high + d) xs ys) (digit_of base x) le where
  go : ((d : ℕ) → (number_from base (n + 1) (base * high + d) (xs ++ ys)).0 ≤ n + 1 + length xs → number_from base (n + 1)
      (base * high + d) (xs ++ ys) ≡ number_from base (n + 1) (base * high + d) xs) → (o : Option ℕ) →
      (after_digit base n high (xs ++ ys) o).0 ≤ n + length (x ∷ xs) → after_digit base n high (xs ++ ys) o ≡ after_digit base n high xs o
  go more None le = refl
  go more (Some d) le = more d (omega arith)

-- a closing brace within the first bytes
closes-cut : (n : ℕ) (xs ys : List ℕ) → n < length xs → closes (drop n (xs ++ ys)) ≡ closes (drop n xs)
closes-cut n [] ys lt = absurd (omega arith)
closes-cut zero (x ∷ xs) ys lt = refl
closes-cut (suc n) (x ∷ xs) ys lt = closes-cut n xs ys (omega arith)

-- the bytes at the front that pass a test, where they end within the first bytes
prefix_len-cut : (p : ℕ → Bool) (xs ys : List ℕ) → prefix_len p (xs ++ ys) ≤ length xs → prefix_len p (xs ++ ys) ≡ prefix_len p xs
prefix_len-cut p [] [] le = refl
prefix_len-cut p [] (y ∷ ys) le = omega arith
prefix_len-cut p (x ∷ xs) ys le = go (prefix_len-cut p xs ys) (p x) le where
  go : (prefix_len p (xs ++ ys) ≤ length xs → prefix_len p (xs ++ ys) ≡ prefix_len p xs) → (t : Bool) →
      cond t (1 + prefix_len p (xs ++ ys)) 0 ≤ length (x ∷ xs) → cond t (1 + prefix_len p (xs ++ ys)) 0 ≡ cond t (1 + prefix_len p xs) 0
  go more true le = ap (λ (n : ℕ). 1 + n) (more (omega arith))
  go more false le = refl

-- the piece of a reading, if it gives one, has `k` bytes behind its first
Behind : Piece → ℕ → Result Piece TextFault → Type 0
Behind p k r = r ≡ Ok p → p.behind ≡ k

behind_err : (p : Piece) (k : ℕ) (fault : TextFault) → Behind p k (Err fault)
unfolding Behind
behind_err p k fault e = cc

behind_ok : (p q : Piece) (k : ℕ) → q.behind ≡ k → Behind p k (Ok q)
unfolding Behind
behind_ok p q k is e = let same : q ≡ p = cc in ap (λ (r : Piece). r.behind) (sym same) ∙ is

behind_both : (p : Piece) (k : ℕ) (t : Bool) (a b : Result Piece TextFault) → Behind p k a → Behind p k b → Behind p k (cond t a b)
behind_both p k true a b f g = f
behind_both p k false a b f g = g

code_piece-behind : (p : Piece) (found : ℕ × ℕ) → Behind p (1 + found.0) (code_piece found)
code_piece-behind p found = behind_both p _ (eqb found.0 0) _ _ (behind_err p _ _)
    (behind_both p _ (is_code found.1) _ _ (behind_ok p _ _ refl) (behind_err p _ _))

character_piece-behind : (p : Piece) (o : Option ℕ) (k : ℕ) → Behind p k (character_piece o k)
character_piece-behind p None k = behind_err p k _
character_piece-behind p (Some c) k = behind_ok p _ k refl

unicode_piece-behind : (p : Piece) (bytes : List ℕ) (found : ℕ × ℕ) → Behind p (2 + found.0) (unicode_piece bytes found)
unicode_piece-behind p bytes found = behind_both p _ (eqb found.0 0 || not (closes (drop found.0 bytes))) _ _ (behind_err p _ _)
    (character_piece-behind p (zscii_of_unicode found.1) (2 + found.0))

variable_piece-behind : (p : Piece) (m : Mode) (tens : ℕ) (bytes : List ℕ) → Behind p 2 (variable_piece m tens bytes)
variable_piece-behind p Mode.Quote tens bytes = behind_err p 2 _
variable_piece-behind p Mode.Abbreviation tens bytes = behind_err p 2 _
variable_piece-behind p Mode.Text tens [] = behind_err p 2 _
variable_piece-behind p Mode.Text tens (b ∷ bytes) = go (digit_of 10 b) where
  go : (o : Option ℕ) → Behind p 2 (elim o as (λ _. Result Piece TextFault) [
    | None ↦ Err TextFault.UnknownEscape
    | Some units ↦ cond (ltb (10 * tens + units) 32) (Ok (one (TextItem.Variable (10 * tens + units)) 2)) (Err TextFault.BadCode)
  ])
  go None = behind_err p 2 _
  go (Some units) = behind_both p 2 (ltb (10 * tens + units) 32) _ _ (behind_ok p _ 2 refl) (behind_err p 2 _)

accent_piece-behind : (p : Piece) (a : ℕ) (bytes : List ℕ) → Behind p 2 (accent_piece a bytes)
accent_piece-behind p a [] = behind_err p 2 _
accent_piece-behind p a (b ∷ bytes) = go (spelled a b) where
  go : (o : Option ℕ) → Behind p 2 (elim o as (λ _. Result Piece TextFault)
      [ None ↦ Err TextFault.UnknownEscape | Some c ↦ Ok (one (TextItem.Character c) 2) ])
  go None = behind_err p 2 _
  go (Some c) = behind_ok p _ 2 refl

-- the piece of the first bytes is the piece of all, where that is found within them
Keeps : Piece → Result Piece TextFault → Result Piece TextFault → Type 0
Keeps p all first = all ≡ Ok p → first ≡ Ok p

keeps_both : (p : Piece) (t : Bool) (a b c d : Result Piece TextFault) → Keeps p a c → Keeps p b d → Keeps p (cond t a b) (cond t c d)
keeps_both p true a b c d f g = f
keeps_both p false a b c d f g = g

code_piece-cut : (p : Piece) (xs ys : List ℕ) → p.behind ≤ 1 + length xs →
    Keeps p (code_piece (number_from 10 0 0 (xs ++ ys))) (code_piece (number_from 10 0 0 xs))
unfolding Keeps Behind
code_piece-cut p xs ys le e =
    let found = number_from 10 0 0 (xs ++ ys) in let behind : p.behind ≡ 1 + found.0 = code_piece-behind p found e in
    let same = number_from-cut 10 0 0 xs ys (omega arith) in ap code_piece (sym same) ∙ e

unicode_piece-cut : (p : Piece) (xs ys : List ℕ) → p.behind ≤ 1 + length xs →
    Keeps p (unicode_piece (xs ++ ys) (number_from 16 0 0 (xs ++ ys))) (unicode_piece xs (number_from 16 0 0 xs))
unfolding Keeps Behind
unicode_piece-cut p xs ys le e =
    let found = number_from 16 0 0 (xs ++ ys) in
    let behind : p.behind ≡ 2 + found.0 = unicode_piece-behind p (xs ++ ys) found e in
    let same = number_from-cut 16 0 0 xs ys (omega arith) in let closed = closes-cut found.0 xs ys (omega arith) in
    ap (unicode_piece xs) (sym same) ∙ ap (λ (t : Bool). cond (eqb found.0 0 || not t) (Err TextFault.UnknownEscape)
    (character_piece (zscii_of_unicode found.1) (2 + found.0))) (sym closed) ∙ e

variable_piece-cut : (p : Piece) (m : Mode) (tens : ℕ) (xs ys : List ℕ) → p.behind ≤ 1 + length xs →
    Keeps p (variable_piece m tens (xs ++ ys)) (variable_piece m tens xs)
unfolding Keeps Behind
variable_piece-cut p m tens [] ys le e = let behind : p.behind ≡ 2 = variable_piece-behind p m tens ys e in absurd (omega arith)
variable_piece-cut p Mode.Quote tens (x ∷ xs) ys le e = e
variable_piece-cut p Mode.Abbreviation tens (x ∷ xs) ys le e = e
variable_piece-cut p Mode.Text tens (x ∷ xs) ys le e = e

accent_piece-cut : (p : Piece) (a : ℕ) (xs ys : List ℕ) → p.behind ≤ 1 + length xs → Keeps p (accent_piece a (xs ++ ys)) (accent_piece a xs)
unfolding Keeps Behind
accent_piece-cut p a [] ys le e = let behind : p.behind ≡ 2 = accent_piece-behind p a ys e in absurd (omega arith)
accent_piece-cut p a (x ∷ xs) ys le e = e

-- the piece of an escape whose first byte is no mark of a number
abbrev plain_escape : Mode → ℕ → List ℕ → Option ℕ → Result Piece TextFault
plain_escape m b bytes None = accent_piece b bytes
plain_escape m b bytes (Some tens) = variable_piece m tens bytes

plain_escape-cut : (p : Piece) (m : Mode) (b : ℕ) (xs ys : List ℕ) (o : Option ℕ) → p.behind ≤ 1 + length xs →
    Keeps p (plain_escape m b (xs ++ ys) o) (plain_escape m b xs o)
plain_escape-cut p m b xs ys None le = accent_piece-cut p b xs ys le
plain_escape-cut p m b xs ys (Some tens) le = variable_piece-cut p m tens xs ys le

plain_escape-far : (p : Piece) (m : Mode) (b : ℕ) (bytes : List ℕ) (o : Option ℕ) → Behind p 2 (plain_escape m b bytes o)
plain_escape-far p m b bytes None = accent_piece-behind p b bytes
plain_escape-far p m b bytes (Some tens) = variable_piece-behind p m tens bytes

-- an escape has bytes behind its first
Far : Piece → Result Piece TextFault → Type 0
Far p r = r ≡ Ok p → 1 ≤ p.behind

far : (p : Piece) (k : ℕ) (r : Result Piece TextFault) → 1 ≤ k → Behind p k r → Far p r
unfolding Far Behind
far p k r le h e = let is : p.behind ≡ k = h e in omega arith

far_both : (p : Piece) (t : Bool) (a b : Result Piece TextFault) → Far p a → Far p b → Far p (cond t a b)
far_both p true a b f g = f
far_both p false a b f g = g

escape_piece-far : (p : Piece) (m : Mode) (bytes : List ℕ) → Far p (escape_piece m bytes)
unfolding escape_piece Far
escape_piece-far p m [] e = cc
escape_piece-far p m (b ∷ bytes) e =
    let code = number_from 10 0 0 bytes in let character = number_from 16 0 0 bytes in
    far_both p (eqb b 64) _ _ (far p (1 + code.0) _ (omega arith) (code_piece-behind p code))
    (far_both p (eqb b 123) _ _ (far p (2 + character.0) _ (omega arith) (unicode_piece-behind p bytes character))
    (far p 2 _ (omega arith) (plain_escape-far p m b bytes (digit_of 10 b)))) e

escape_piece-cut : (p : Piece) (m : Mode) (xs ys : List ℕ) → p.behind ≤ length xs → Keeps p (escape_piece m (xs ++ ys)) (escape_piece m xs)
unfolding escape_piece Keeps Far
escape_piece-cut p m [] ys le e = let some : 1 ≤ p.behind = escape_piece-far p m ys e in absurd (omega arith)
escape_piece-cut p m (x ∷ xs) ys le e = keeps_both p (eqb x 64) _ _ _ _ (code_piece-cut p xs ys (omega arith))
    (keeps_both p (eqb x 123) _ _ _ _ (unicode_piece-cut p xs ys (omega arith))
    (plain_escape-cut p m x xs ys (digit_of 10 x) (omega arith))) e

-- white space that is read as some spaces
white : ℕ → ℕ → Result Piece TextFault
white count behind = Ok (record { item = TextItem.Character 32; count = count; behind = behind; is_mark = false })

white-behind : (p : Piece) (count behind : ℕ) → Behind p behind (white count behind)
unfolding white
white-behind p count behind = behind_ok p _ behind refl

stroke-cut : (p : Piece) (set : CharSet) (xs ys : List ℕ) → p.behind ≤ length xs →
    Keeps p (white 0 (white_len set (xs ++ ys))) (white 0 (white_len set xs))
unfolding Keeps Behind
stroke-cut p set xs ys le e =
    let behind : p.behind ≡ white_len set (xs ++ ys) = white-behind p 0 (white_len set (xs ++ ys)) e in
    let same = prefix_len-cut (is_white set) xs ys (omega arith) in ap (white 0) (sym same) ∙ e

run-cut : (p : Piece) (set : CharSet) (after_mark : Bool) (b : ℕ) (xs ys : List ℕ) → p.behind ≤ length xs → Keeps p
    (white (spaces after_mark (b ∷ take (white_len set (xs ++ ys)) (xs ++ ys))) (white_len set (xs ++ ys)))
    (white (spaces after_mark (b ∷ take (white_len set xs) xs)) (white_len set xs))
unfolding Keeps Behind
run-cut p set after_mark b xs ys le e =
    let n = white_len set (xs ++ ys) in let behind : p.behind ≡ n = white-behind p _ n e in
    let fits : n ≤ length xs = omega arith in let same = prefix_len-cut (is_white set) xs ys fits in
    ap (λ (k : ℕ). white (spaces after_mark (b ∷ take k xs)) k) (sym same)
    ∙ ap (λ (run : List ℕ). white (spaces after_mark (b ∷ run)) n) (sym (take-append-le n xs ys fits)) ∙ e

-- a piece that ends within the first bytes is the one that they begin with
pub piece_at-cut : (set : CharSet) (m : Mode) (after_mark : Bool) (b : ℕ) (xs ys : List ℕ) (p : Piece) →
    piece_at set m after_mark b (xs ++ ys) ≡ Ok p → p.behind ≤ length xs → piece_at set m after_mark b xs ≡ Ok p
unfolding piece_at Keeps white
piece_at-cut set m after_mark b xs ys p e le = keeps_both p (eqb b 64) _ _ _ _ (escape_piece-cut p m xs ys le)
    (keeps_both p (eqb b 92) _ _ _ _ (stroke-cut p set xs ys le)
    (keeps_both p (is_white set b) _ _ _ _ (run-cut p set after_mark b xs ys le) (λ same. same))) e
