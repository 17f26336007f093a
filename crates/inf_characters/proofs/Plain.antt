-- Bytes that are characters or white space by themselves are a text.
use Rattle.std.proofs.Common.{◌≡◌, ℕ, zero, suc, Bool, true, false, not, cond, Option, Some, None, is_some, Ok, Err, Result, List, [], ◌∷◌}
use Rattle.std.proofs.Common.{◌&&◌, ◌==◌, nat_le, replicate, refl, arith}
use Rattle.std.proofs.lemmas.Bool.{and_parts, both_ways, le-leb, leb-true}
use Rattle.std.specs.{List.list_all, Result.is_ok}
use Rattle.inf_characters.specs.{declared.characters.CharSet.CharSet, declared.reading.Mode.Mode, declared.reading.Piece.Piece}
use Rattle.inf_characters.specs.{declared.reading.TextFault.TextFault, declared.texts.TextItem.TextItem}
use Rattle.inf_characters.specs.Characters.{has_byte, is_white, zscii_of, zscii_of_unicode}
use Rattle.inf_characters.specs.Reading.{and_then, is_new_line_mark, is_plain, meaning, piece_at, text_from, text_of, with_front}

-- choices, each of which is one
either_ok : {X E : Type 0} (t : Bool) (x y : Result X E) → is_ok x ≡ true → is_ok y ≡ true → is_ok (cond t x y) ≡ true
either_ok true x y is is' = is
either_ok false x y is is' = is'

other_ok : {X E : Type 0} (t : Bool) (x y : Result X E) → not t ≡ true → is_ok y ≡ true → is_ok (cond t x y) ≡ true
other_ok true x y un is = absurd (both_ways false refl un)
other_ok false x y un is = is

either_some : (t : Bool) (x y : Option ℕ) → is_some x ≡ true → is_some y ≡ true → is_some (cond t x y) ≡ true
either_some true x y is is' = is
either_some false x y is is' = is'

this_some : (t : Bool) (x y : Option ℕ) → t ≡ true → is_some x ≡ true → is_some (cond t x y) ≡ true
this_some true x y t is = is
this_some false x y t is = absurd (both_ways false refl t)

byte_is : (set : CharSet) (b : ℕ) → nat_le b 126 ≡ true → has_byte set b ≡ true
byte_is CharSet.Ascii b l = le-leb (suc b) 128 (omega (arith, leb-true b 126 l))
byte_is CharSet.Latin1 b l = refl

in_unicode : (b : ℕ) → nat_le 32 b ≡ true → nat_le b 126 ≡ true → is_some (zscii_of_unicode b) ≡ true
unfolding zscii_of_unicode
in_unicode b l m = rw (l, m) refl

has_code : (set : CharSet) (b : ℕ) → nat_le 32 b ≡ true → nat_le b 126 ≡ true → is_some (zscii_of set b) ≡ true
unfolding zscii_of
has_code set b l m = either_some (is_white set b) (Some 32) _ refl
    (this_some (has_byte set b) (zscii_of_unicode b) None (byte_is set b m) (in_unicode b l m))

plain_piece : (set : CharSet) (mode : Mode) (after_mark : Bool) (b : ℕ) (bytes : List ℕ) → is_plain b ≡ true →
    is_ok (piece_at set mode after_mark b bytes) ≡ true
unfolding piece_at
plain_piece set mode after_mark b bytes p =
    let parts = and_parts (nat_le 32 b && nat_le b 126) (not (b == 64)) p in
    let bounds = and_parts (nat_le 32 b) (nat_le b 126) parts.0 in
    other_ok (b == 64) _ _ parts.1 (either_ok (b == 92) _ _ refl (either_ok (is_white set b) _ _ refl
    (by_code (zscii_of set b) (has_code set b bounds.0 bounds.1))))
  where
    by_code : (z : Option ℕ) → is_some z ≡ true → is_ok {T = Piece} {E = TextFault} (elim z [
      | None ↦ Err TextFault.NoZscii
      | Some c ↦ Ok (record { item = TextItem.Character (meaning mode c); count = 1; behind = 0; is_mark = is_new_line_mark mode b })
    ]) ≡ true
    by_code None is = absurd (both_ways false refl is)
    by_code (Some c) is = refl

behind_ok : (front : List TextItem) (r : Result (List TextItem) TextFault) → is_ok r ≡ true → is_ok (with_front front r) ≡ true
behind_ok front (Ok items) is = refl
behind_ok front (Err fault) is = is

then_ok : (r : Result Piece TextFault) (next : Piece → Result (List TextItem) TextFault) → is_ok r ≡ true →
    ((p : Piece) → is_ok (next p) ≡ true) → is_ok (and_then r next) ≡ true
then_ok (Ok found) next is after = behind_ok (replicate found.count found.item) (next found) (after found)
then_ok (Err fault) next is after = is

plain_from : (set : CharSet) (mode : Mode) (after_mark : Bool) (passed : ℕ) (bytes : List ℕ) → list_all is_plain bytes ≡ true →
    is_ok (text_from set mode after_mark passed bytes) ≡ true
plain_from set mode after_mark passed [] p = refl
plain_from set mode after_mark (suc passed) (b ∷ bytes) p =
    plain_from set mode after_mark passed bytes (and_parts (is_plain b) (list_all is_plain bytes) p).1
plain_from set mode after_mark zero (b ∷ bytes) p =
    let parts = and_parts (is_plain b) (list_all is_plain bytes) p in
    then_ok (piece_at set mode after_mark b bytes) (λ found. text_from set mode found.is_mark found.behind bytes)
    (plain_piece set mode after_mark b bytes parts.0) (λ found. plain_from set mode found.is_mark found.behind bytes parts.1)

pub plain_text : (set : CharSet) (mode : Mode) (bytes : List ℕ) → list_all is_plain bytes ≡ true → is_ok (text_of set mode bytes) ≡ true
unfolding text_of
plain_text set mode bytes p = plain_from set mode false 0 bytes p
