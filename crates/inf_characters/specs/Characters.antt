-- The characters of a text: ZSCII (Z-Machine Standard 1.1, section 3.8) and the character sets of a source.
use Rattle.std.specs.{List.position_from, Option.option_map}
use Rattle.std.specs.Prelude.{ℕ, ◌+◌, ◌==◌, nat_lt, nat_le, Bool, true, ◌&&◌, ◌||◌, Option, Some, None, List, [], ◌∷◌, if◌then◌else◌}
use Rattle.inf_characters.specs.declared.characters.CharSet.{CharSet}

-- the codes that a text may have: the new line, ASCII and the accented letters (section 3.8)
abbrev pub is_code : ℕ → Bool
is_code n = (n == 13) || (nat_le 32 n && nat_le n 126) || (nat_le 155 n && nat_le n 223)

-- the Unicode numbers of ZSCII 155 to 223, in their order (section 3.8.5, table 1)
unfoldable pub accented : List ℕ
accented = 0xE4 ∷ 0xF6 ∷ 0xFC ∷ 0xC4 ∷ 0xD6 ∷ 0xDC ∷ 0xDF ∷ 0xBB ∷ 0xAB ∷ 0xEB ∷ 0xEF ∷ 0xFF ∷ 0xCB ∷ 0xCF
    ∷ 0xE1 ∷ 0xE9 ∷ 0xED ∷ 0xF3 ∷ 0xFA ∷ 0xFD ∷ 0xC1 ∷ 0xC9 ∷ 0xCD ∷ 0xD3 ∷ 0xDA ∷ 0xDD
    ∷ 0xE0 ∷ 0xE8 ∷ 0xEC ∷ 0xF2 ∷ 0xF9 ∷ 0xC0 ∷ 0xC8 ∷ 0xCC ∷ 0xD2 ∷ 0xD9
    ∷ 0xE2 ∷ 0xEA ∷ 0xEE ∷ 0xF4 ∷ 0xFB ∷ 0xC2 ∷ 0xCA ∷ 0xCE ∷ 0xD4 ∷ 0xDB
    ∷ 0xE5 ∷ 0xC5 ∷ 0xF8 ∷ 0xD8 ∷ 0xE3 ∷ 0xF1 ∷ 0xF5 ∷ 0xC3 ∷ 0xD1 ∷ 0xD5 ∷ 0xE6 ∷ 0xC6 ∷ 0xE7 ∷ 0xC7
    ∷ 0xFE ∷ 0xF0 ∷ 0xDE ∷ 0xD0 ∷ 0xA3 ∷ 0x153 ∷ 0x152 ∷ 0xA1 ∷ 0xBF ∷ []

-- the code of a Unicode character: 32 to 126 are ASCII (section 3.8.3), 155 to 223 the table's; no other has one
unfoldable pub zscii_of_unicode : ℕ → Option ℕ
zscii_of_unicode u =
    if nat_le 32 u && nat_le u 126 then Some u else option_map (λ place. 155 + place) (position_from (λ x. x == u) 0 accented)

-- line feed and carriage return
abbrev pub is_line_end : ℕ → Bool
is_line_end b = (b == 10) || (b == 13)

-- tab, line ends, form feed and space, and under ISO 8859-1 the space that does not break
abbrev pub is_white : CharSet → ℕ → Bool
is_white CharSet.Ascii b = (b == 32) || (b == 9) || (b == 12) || is_line_end b
is_white CharSet.Latin1 b = (b == 32) || (b == 9) || (b == 12) || is_line_end b || (b == 160)

-- whether a byte is a character of the set
abbrev pub has_byte : CharSet → ℕ → Bool
has_byte CharSet.Ascii b = nat_lt b 128
has_byte CharSet.Latin1 b = true

-- the code of a byte of a source: each white space byte is a space
unfoldable pub zscii_of : CharSet → ℕ → Option ℕ
zscii_of set b = if is_white set b then Some 32 else if has_byte set b then zscii_of_unicode b else None
