-- Reading itself never lacks memory.
use Rattle.std.proofs.Common.{◌≡◌, ◌+◌, ◌*◌, ℕ, Bool, true, false, not, ◌||◌, cond, eqb, ltb, Option, None, Some, Result, Ok, Err, List, []}
use Rattle.std.proofs.Common.{◌∷◌, drop, refl, sym, ap, ◌∙◌}
use Rattle.inf_characters.specs.{declared.characters.CharSet.CharSet, declared.reading.Mode.Mode, declared.reading.Piece.Piece}
use Rattle.inf_characters.specs.{declared.reading.TextFault.TextFault, declared.texts.TextItem.TextItem}
use Rattle.inf_characters.specs.Characters.{is_code, is_white, zscii_of, zscii_of_unicode}
use Rattle.inf_characters.specs.Reading.{Reads, accent_piece, and_then, character_piece, closes, code_piece, digit_of, escape_piece}
use Rattle.inf_characters.specs.Reading.{is_new_line_mark, meaning, number_from, one, piece_at, spelled, text_from, text_of, unicode_piece}
use Rattle.inf_characters.specs.Reading.{variable_piece, with_front}
use Rattle.inf_characters.proofs.Pieces.{Continues}

-- a piece is not refused for want of memory
Told : Result Piece TextFault → Type 0
Told r = r ≡ Err TextFault.Memory → ⊥

told_ok : (p : Piece) → Told (Ok p)
unfolding Told
told_ok p e = cc

told_escape : Told (Err TextFault.UnknownEscape)
unfolding Told
told_escape e = cc

told_character : Told (Err TextFault.NoZscii)
unfolding Told
told_character e = cc

told_code : Told (Err TextFault.BadCode)
unfolding Told
told_code e = cc

told_both : (t : Bool) (a b : Result Piece TextFault) → Told a → Told b → Told (cond t a b)
told_both true a b f g = f
told_both false a b f g = g

code_piece-told : (found : ℕ × ℕ) → Told (code_piece found)
code_piece-told found = told_both (eqb found.0 0) _ _ told_escape (told_both (is_code found.1) _ _ (told_ok _) told_code)

character_piece-told : (o : Option ℕ) (k : ℕ) → Told (character_piece o k)
character_piece-told None k = told_character
character_piece-told (Some c) k = told_ok _

unicode_piece-told : (bytes : List ℕ) (found : ℕ × ℕ) → Told (unicode_piece bytes found)
unicode_piece-told bytes found = told_both (eqb found.0 0 || not (closes (drop found.0 bytes))) _ _ told_escape
    (character_piece-told (zscii_of_unicode found.1) (2 + found.0))

variable_piece-told : (m : Mode) (tens : ℕ) (bytes : List ℕ) → Told (variable_piece m tens bytes)
variable_piece-told Mode.Quote tens bytes = told_escape
variable_piece-told Mode.Abbreviation tens bytes = told_escape
variable_piece-told Mode.Text tens [] = told_escape
variable_piece-told Mode.Text tens (b ∷ bytes) = go (digit_of 10 b) where
  go : (o : Option ℕ) → Told (elim o as (λ _. Result Piece TextFault) [
    | None ↦ Err TextFault.UnknownEscape
    | Some units ↦ cond (ltb (10 * tens + units) 32) (Ok (one (TextItem.Variable (10 * tens + units)) 2)) (Err TextFault.BadCode)
  ])
  go None = told_escape
  go (Some units) = told_both (ltb (10 * tens + units) 32) _ _ (told_ok _) told_code

accent_piece-told : (a : ℕ) (bytes : List ℕ) → Told (accent_piece a bytes)
accent_piece-told a [] = told_escape
accent_piece-told a (b ∷ bytes) = go (spelled a b) where
  go : (o : Option ℕ) →
      Told (elim o as (λ _. Result Piece TextFault) [ None ↦ Err TextFault.UnknownEscape | Some c ↦ Ok (one (TextItem.Character c) 2) ])
  go None = told_escape
  go (Some c) = told_ok _

escape_piece-told : (m : Mode) (bytes : List ℕ) → Told (escape_piece m bytes)
unfolding escape_piece
escape_piece-told m [] = told_escape
escape_piece-told m (b ∷ bytes) = told_both (eqb b 64) _ _ (code_piece-told (number_from 10 0 0 bytes))
    (told_both (eqb b 123) _ _ (unicode_piece-told bytes (number_from 16 0 0 bytes)) (go (digit_of 10 b)))
  where
    go : (o : Option ℕ) →
        Told (elim o as (λ _. Result Piece TextFault) [ None ↦ accent_piece b bytes | Some tens ↦ variable_piece m tens bytes ])
    go None = accent_piece-told b bytes
    go (Some tens) = variable_piece-told m tens bytes

piece_at-told : (set : CharSet) (m : Mode) (after_mark : Bool) (b : ℕ) (bytes : List ℕ) → Told (piece_at set m after_mark b bytes)
unfolding piece_at
piece_at-told set m after_mark b bytes = told_both (eqb b 64) _ _ (escape_piece-told m bytes)
    (told_both (eqb b 92) _ _ (told_ok _) (told_both (is_white set b) _ _ (told_ok _) (go (zscii_of set b))))
  where
    go : (o : Option ℕ) → Told (elim o as (λ _. Result Piece TextFault) [
      | None ↦ Err TextFault.NoZscii
      | Some c ↦ Ok (record { item = TextItem.Character (meaning m c); count = 1; behind = 0; is_mark = is_new_line_mark m b })
    ])
    go None = told_character
    go (Some c) = told_ok _

-- the fault of a piece is that of the text
pub Continues-fault : (set : CharSet) (m : Mode) (after_mark : Bool) (items : List TextItem) (rest bytes : List ℕ) (first : ℕ)
    (tail : List ℕ) (fault : TextFault) → rest ≡ first ∷ tail → piece_at set m after_mark first tail ≡ Err fault → Continues set m
    after_mark items rest bytes → Reads set m bytes (Err fault)
unfolding Told
Continues-fault set m after_mark items rest bytes first tail fault split found h =
    let step : text_from set m after_mark 0 rest ≡ Err fault = ap (text_from set m after_mark 0) split
    ∙ ap (λ (r : Result Piece TextFault). and_then r (λ p. text_from set m p.is_mark p.behind tail)) found in
    go fault (sym h.value ∙ ap (with_front items) step) (λ e. piece_at-told set m after_mark first tail (found ∙ e))
  where
    go : (f : TextFault) → text_of set m bytes ≡ Err f → (◌≡◌ {A = Result Piece TextFault} (Err f) (Err TextFault.Memory) → ⊥) →
        Reads set m bytes (Err f)
    go TextFault.UnknownEscape is never = is
    go TextFault.NoZscii is never = is
    go TextFault.BadCode is never = is
    go TextFault.Memory is never = absurd (never refl)
