-- Texts without marks, which are read byte by byte.
use Rattle.std.specs.Prelude.{◌≡◌, ℕ, ◌==◌, Bool, true, not, ◌||◌, Some, None, Result, Ok, Err, List, [], ◌∷◌}
use Rattle.inf_characters.specs.{Characters.is_line_end, Characters.zscii_of, Reading.text_of, Reading.with_front}
use Rattle.inf_characters.specs.{declared.characters.CharSet.CharSet, declared.reading.Mode.Mode, declared.reading.TextFault.TextFault}
use Rattle.inf_characters.specs.{declared.texts.TextItem.TextItem}

-- none of the bytes is @ ~ ^ \ or a line end
abbrev pub is_plain : ℕ → Bool
is_plain b = not ((b == 64) || (b == 126) || (b == 94) || (b == 92) || is_line_end b)

abbrev pub ArePlain : List ℕ → Type 0
ArePlain [] = Unit {0}
ArePlain (b ∷ bytes) = (is_plain b ≡ true) × ArePlain bytes

-- the character of each byte, or the fault of the first byte that is none
abbrev pub byte_by_byte : CharSet → List ℕ → Result (List TextItem) TextFault
byte_by_byte set [] = Ok []
byte_by_byte set (b ∷ bytes) =
    elim (zscii_of set b) [ None ↦ Err TextFault.NoZscii | Some c ↦ with_front (TextItem.Character c ∷ []) (byte_by_byte set bytes) ]

-- plain bytes are read as the characters of the bytes, in each mode
abbrev pub ReadsPlainly : CharSet → Mode → List ℕ → Type 0
ReadsPlainly set mode bytes = ArePlain bytes → text_of set mode bytes ≡ byte_by_byte set bytes
