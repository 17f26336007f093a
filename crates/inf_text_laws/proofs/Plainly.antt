-- Plain bytes are read byte by byte.
use Rattle.std.proofs.Common.{◌≡◌, ◌≤◌, ◌+◌, ℕ, zero, suc, Bool, true, false, not, ◌&&◌, ◌||◌, cond, eqb, leb, Option, None, Some, Result}
use Rattle.std.proofs.Common.{Ok, Err, List, [], ◌∷◌, take, drop, replicate, refl, sym, ap, ◌∙◌, inl, inr, arith, option_map, ◌⊎◌}
use Rattle.std.proofs.{lemmas.Bool.Decides.nat_tests, lemmas.List.Folds.length-prefix_len}
use Rattle.std.specs.List.{list_any, position_from}
use Rattle.inf_characters.specs.{declared.characters.CharSet.CharSet, declared.reading.Mode.Mode, declared.reading.TextFault.TextFault}
use Rattle.inf_characters.specs.{declared.texts.TextItem.TextItem}
use Rattle.inf_characters.specs.Characters.{accented, has_byte, is_line_end, is_white, zscii_of, zscii_of_unicode}
use Rattle.inf_characters.specs.Reading.{and_then, is_new_line_mark, meaning, piece_at, spaces, text_from, text_of, white_len, with_front}
use Rattle.inf_text_laws.specs.Plain.{ArePlain, ReadsPlainly, byte_by_byte, is_plain}
use Rattle.inf_characters.proofs.Pieces.{Found, with_front-append, with_front-none}

-- a plain byte is none of the marks
record IsPlain (b : ℕ) : Type 0 where
  pub no_escape : eqb b 64 ≡ false
  pub no_tilde : eqb b 126 ≡ false
  pub no_caret : eqb b 94 ≡ false
  pub no_stroke : eqb b 92 ≡ false
  pub no_end : is_line_end b ≡ false

not_true : (a : Bool) → not a ≡ true → a ≡ false
not_true true h = cc
not_true false h = refl

neither : (a b : Bool) → (a || b) ≡ false → (a ≡ false) × (b ≡ false)
neither true b h = cc
neither false b h = (refl, h)

plain : (b : ℕ) → is_plain b ≡ true → IsPlain b
plain b h =
    let five = neither (((eqb b 64 || eqb b 126) || eqb b 94) || eqb b 92) (is_line_end b) (not_true _ h) in
    let four = neither ((eqb b 64 || eqb b 126) || eqb b 94) (eqb b 92) five.0 in
    let three = neither (eqb b 64 || eqb b 126) (eqb b 94) four.0 in
    let two = neither (eqb b 64) (eqb b 126) three.0 in
    record { no_escape = two.0; no_tilde = two.1; no_caret = three.1; no_stroke = four.1; no_end = five.1 }

-- white space is a space
white_is_space : (set : CharSet) (b : ℕ) → is_white set b ≡ true → zscii_of set b ≡ Some 32
unfolding zscii_of
white_is_space set b h = rw h refl

no_line_end : (n : ℕ) (bytes : List ℕ) → ArePlain bytes → list_any is_line_end (take n bytes) ≡ false
no_line_end zero bytes h = refl
no_line_end (suc n) [] h = refl
no_line_end (suc n) (b ∷ bytes) h = rw ((plain b h.0).no_end) (no_line_end n bytes h.1)

-- a byte that is a character, and one that is none
byte_by_byte-some : (set : CharSet) (b c : ℕ) (bytes : List ℕ) → zscii_of set b ≡ Some c →
    byte_by_byte set (b ∷ bytes) ≡ with_front (TextItem.Character c ∷ []) (byte_by_byte set bytes)
byte_by_byte-some set b c bytes e = ap (λ (o : Option ℕ). elim o as (λ _. Result (List TextItem) TextFault)
    [ None ↦ Err TextFault.NoZscii | Some c ↦ with_front (TextItem.Character c ∷ []) (byte_by_byte set bytes) ]) e

byte_by_byte-none : (set : CharSet) (b : ℕ) (bytes : List ℕ) → zscii_of set b ≡ None → byte_by_byte set (b ∷ bytes) ≡ Err TextFault.NoZscii
byte_by_byte-none set b bytes e = ap (λ (o : Option ℕ). elim o as (λ _. Result (List TextItem) TextFault)
    [ None ↦ Err TextFault.NoZscii | Some c ↦ with_front (TextItem.Character c ∷ []) (byte_by_byte set bytes) ]) e

-- the white space at the front is as many spaces, byte by byte
byte_by_byte-white : (set : CharSet) (bytes : List ℕ) →
    byte_by_byte set bytes ≡ with_front (replicate (white_len set bytes) (TextItem.Character 32))
    (byte_by_byte set (drop (white_len set bytes) bytes))
byte_by_byte-white set [] = refl
byte_by_byte-white set (b ∷ bytes) = go (is_white set b) refl (byte_by_byte-white set bytes)
  where
    go : (t : Bool) → is_white set b ≡ t → byte_by_byte set bytes ≡ with_front (replicate (white_len set bytes) (TextItem.Character 32))
        (byte_by_byte set (drop (white_len set bytes) bytes)) → byte_by_byte set (b ∷ bytes) ≡ with_front
        (replicate (cond t (1 + white_len set bytes) 0) (TextItem.Character 32))
        (byte_by_byte set (drop (cond t (1 + white_len set bytes) 0) (b ∷ bytes)))
    go true e later =
        let n = white_len set bytes in
        let one : 1 + n ≡ suc n = omega arith in
        let space : zscii_of set b ≡ Some 32 = white_is_space set b e in
        rw one (byte_by_byte-some set b 32 bytes space ∙ ap (with_front (TextItem.Character 32 ∷ [])) later ∙ sym
        (with_front-append (TextItem.Character 32 ∷ []) (replicate n (TextItem.Character 32)) (byte_by_byte set (drop n bytes))))
    go false e later = sym (with_front-none (byte_by_byte set (b ∷ bytes)))

-- a character that is no mark means itself
meaning-plain : (mode : Mode) (c : ℕ) → eqb c 94 ≡ false → eqb c 126 ≡ false → meaning mode c ≡ c
meaning-plain Mode.Text c p q = rw (p, q) refl
meaning-plain Mode.Quote c p q = rw p refl
meaning-plain Mode.Abbreviation c p q = rw (p, q) refl

-- a byte that is a character is its own code or that of an accented letter
code_is : (b c : ℕ) → zscii_of_unicode b ≡ Some c → (c ≡ b) ⊎ (155 ≤ c)
unfolding zscii_of_unicode
code_is b c e = go (leb 32 b && leb b 126) (position_from (λ x. eqb x b) 0 accented) e
  where
    go : (t : Bool) (found : Option ℕ) → cond t (Some b) (option_map (λ place. 155 + place) found) ≡ Some c → (c ≡ b) ⊎ (155 ≤ c)
    go true found e = inl (let same : b ≡ c = cc in sym same)
    go false (Some place) e = let same : 155 + place ≡ c = cc in inr (omega arith)
    go false None e = cc

code_of_byte : (set : CharSet) (b c : ℕ) → is_white set b ≡ false → zscii_of set b ≡ Some c → (c ≡ b) ⊎ (155 ≤ c)
unfolding zscii_of
code_of_byte set b c black e = go (has_byte set b) (rw black at e)
  where
    go : (t : Bool) → cond t (zscii_of_unicode b) None ≡ Some c → (c ≡ b) ⊎ (155 ≤ c)
    go true e = code_is b c e
    go false e = cc

-- A character that is no mark keeps its meaning.
keeps_meaning : (mode : Mode) (b c : ℕ) → IsPlain b → (c ≡ b) ⊎ (155 ≤ c) → meaning mode c ≡ c
keeps_meaning mode b c h (inl same) = meaning-plain mode c (rw same h.no_caret) (rw same h.no_tilde)
keeps_meaning mode b c h (inr le) = meaning-plain mode c (grind (arith, nat_tests)) (grind (arith, nat_tests))

-- a plain byte that is white space, and those behind it
piece-white : (set : CharSet) (mode : Mode) (after_mark : Bool) (b : ℕ) (bytes : List ℕ) → IsPlain b → ArePlain bytes → is_white set b ≡
    true → piece_at set mode after_mark b bytes ≡ Ok
    (record { item = TextItem.Character 32; count = suc (white_len set bytes); behind = white_len set bytes; is_mark = false })
unfolding piece_at
piece-white set mode after_mark b bytes h more white =
    rw (h.no_escape, h.no_stroke, white, h.no_end, no_line_end (white_len set bytes) bytes more, length-prefix_len (is_white set) bytes)
    refl

-- a plain byte that is no white space
piece-black : (set : CharSet) (mode : Mode) (after_mark : Bool) (b : ℕ) (bytes : List ℕ) (c : ℕ) → IsPlain b → is_white set b ≡ false →
    zscii_of set b ≡ Some c →
    piece_at set mode after_mark b bytes ≡ Ok (record {
      item = TextItem.Character c;
      count = 1;
      behind = 0;
      is_mark = is_new_line_mark mode b;
    })
unfolding piece_at
piece-black set mode after_mark b bytes c h black code =
    rw (h.no_escape, h.no_stroke, black, code, keeps_meaning mode b c h (code_of_byte set b c black code)) refl

piece-none : (set : CharSet) (mode : Mode) (after_mark : Bool) (b : ℕ) (bytes : List ℕ) → IsPlain b → is_white set b ≡ false →
    zscii_of set b ≡ None → piece_at set mode after_mark b bytes ≡ Err TextFault.NoZscii
unfolding piece_at
piece-none set mode after_mark b bytes h black code = rw (h.no_escape, h.no_stroke, black, code) refl

-- plain bytes are read byte by byte, behind those white space bytes that are passed over
plainly : (set : CharSet) (mode : Mode) (bytes : List ℕ) → ArePlain bytes → (after_mark : Bool) (k : ℕ) → k ≤ white_len set bytes →
    text_from set mode after_mark k bytes ≡ byte_by_byte set (drop k bytes)
plainly set mode [] h after_mark zero le = refl
plainly set mode [] h after_mark (suc k) le = refl
plainly set mode (b ∷ bytes) h after_mark (suc k) le = plainly set mode bytes h.1 after_mark k (fewer (is_white set b) le)
  where
    fewer : (t : Bool) → suc k ≤ cond t (1 + white_len set bytes) 0 → k ≤ white_len set bytes
    fewer true le = omega arith
    fewer false le = omega arith
plainly set mode (b ∷ bytes) h after_mark zero le =
    front (plainly set mode bytes h.1) (plain b h.0) (is_white set b) refl (zscii_of set b) refl
  where
    Next : Type 0
    Next = (after_mark : Bool) (k : ℕ) → k ≤ white_len set bytes → text_from set mode after_mark k bytes ≡ byte_by_byte set (drop k bytes)

    front : Next → IsPlain b → (t : Bool) → is_white set b ≡ t → (found : Option ℕ) → zscii_of set b ≡ found →
        text_from set mode after_mark 0 (b ∷ bytes) ≡ byte_by_byte set (b ∷ bytes)
    front next p true e found code =
        let n = white_len set bytes in
        let one : 1 + n ≡ suc n = omega arith in
        let whole = rw (e, one) at (byte_by_byte-white set (b ∷ bytes)) in
        ap (λ (r : Result Found TextFault). and_then r (λ f. text_from set mode f.is_mark f.behind bytes))
        (piece-white set mode after_mark b bytes p h.1 e)
        ∙ ap (with_front (replicate (suc n) (TextItem.Character 32))) (next false n (omega arith))
        ∙ sym whole
    front next p false e (Some c) code = ap (λ (r : Result Found TextFault). and_then r (λ f. text_from set mode f.is_mark f.behind bytes))
        (piece-black set mode after_mark b bytes c p e code)
        ∙ ap (with_front (TextItem.Character c ∷ [])) (next (is_new_line_mark mode b) 0 (omega arith))
        ∙ sym (byte_by_byte-some set b c bytes code)
    front next p false e None code = ap (λ (r : Result Found TextFault). and_then r (λ f. text_from set mode f.is_mark f.behind bytes))
        (piece-none set mode after_mark b bytes p e code)
        ∙ sym (byte_by_byte-none set b bytes code)

pub reads_plainly : (set : CharSet) (mode : Mode) (bytes : List ℕ) → ReadsPlainly set mode bytes
unfolding text_of
reads_plainly set mode bytes h = plainly set mode bytes h false 0 (omega arith)
