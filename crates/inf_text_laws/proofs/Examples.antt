-- The definitions at worked examples.
use Rattle.std.proofs.Common.{◌≡◌, ℕ, Ok, Err, List, [], ◌∷◌, map, refl, codes}
use Rattle.inf_characters.specs.{Characters.accented, Characters.zscii_of, Characters.zscii_of_unicode, declared.characters.CharSet.CharSet}
use Rattle.inf_characters.specs.{declared.reading.Mode.Mode, declared.reading.TextFault.TextFault, declared.texts.TextItem.TextItem}
use Rattle.inf_characters.specs.Reading.{escape_piece, piece_at, spelled, spellings, text_of}
use Rattle.inf_text.specs.Packing.{character_zs, dictionary_bytes, longest, packed, punctuation}

-- the characters of some codes
characters : List ℕ → List TextItem
characters = map TextItem.Character

-- quoted words in the dictionary
take_bytes : dictionary_bytes (characters (codes "take")) ≡ 0x64 ∷ 0xD0 ∷ 0x28 ∷ 0xA5 ∷ 0x94 ∷ 0xA5 ∷ []
unfolding characters dictionary_bytes character_zs punctuation
take_bytes = refl

t_bytes : dictionary_bytes (characters (codes "t")) ≡ 0x64 ∷ 0xA5 ∷ 0x14 ∷ 0xA5 ∷ 0x94 ∷ 0xA5 ∷ []
unfolding characters dictionary_bytes character_zs punctuation
t_bytes = refl

sharp_s : text_of CharSet.Ascii Mode.Quote (codes "abcdefg@ss") ≡ Ok (characters (97 ∷ 98 ∷ 99 ∷ 100 ∷ 101 ∷ 102 ∷ 103 ∷ 161 ∷ []))
unfolding characters text_of piece_at escape_piece spelled spellings zscii_of zscii_of_unicode accented
sharp_s = refl

sharp_s_bytes : dictionary_bytes (characters (97 ∷ 98 ∷ 99 ∷ 100 ∷ 101 ∷ 102 ∷ 103 ∷ 161 ∷ [])) ≡ 0x18 ∷ 0xE8 ∷ 0x25 ∷ 0x4B ∷ 0xB0 ∷ 0xA6 ∷
    []
unfolding characters dictionary_bytes character_zs punctuation
sharp_s_bytes = refl

-- packed texts
empty_bytes : packed [] [] ≡ 0x94 ∷ 0xA5 ∷ []
unfolding packed
empty_bytes = refl

hello_bytes : packed (characters (codes "hello")) [] ≡ 0x35 ∷ 0x51 ∷ 0xC6 ∷ 0x85 ∷ []
unfolding characters packed longest character_zs punctuation
hello_bytes = refl

lamps_plain : packed (characters (codes "the lamps")) [] ≡ 0x65 ∷ 0xAA ∷ 0x02 ∷ 0x26 ∷ 0xCA ∷ 0xB8 ∷ []
unfolding characters packed longest character_zs punctuation
lamps_plain = refl

lamps_short : packed (characters (codes "the lamps")) (characters (codes "the ") ∷ characters (codes "the lamp") ∷ []) ≡ 0x88 ∷ 0x38 ∷ []
unfolding characters packed longest character_zs punctuation
lamps_short = refl

-- white space: "a", space, tab, space, "b", form feed, space, "c", a run with a line end, "d^", one more, "e\", one more, "f ", "@@13", one
-- more, "g"
white_space : text_of CharSet.Latin1 Mode.Text (97 ∷ 32 ∷ 9 ∷ 32 ∷ 98 ∷ 12 ∷ 32 ∷ 99 ∷ 32 ∷ 32 ∷ 10 ∷ 32 ∷ 100 ∷ 94 ∷ 10 ∷ 32 ∷ 101 ∷
    92 ∷ 10 ∷ 32 ∷
    102 ∷ 32 ∷ 64 ∷ 64 ∷ 49 ∷ 51 ∷ 10 ∷ 32 ∷ 103 ∷ [])
    ≡ Ok (characters (97 ∷ 32 ∷ 32 ∷ 32 ∷ 98 ∷ 32 ∷ 32 ∷ 99 ∷ 32 ∷ 100 ∷ 13 ∷ 101 ∷ 102 ∷ 32 ∷ 13 ∷ 32 ∷ 103 ∷ []))
unfolding characters text_of piece_at escape_piece spelled spellings zscii_of zscii_of_unicode accented
white_space = refl

-- codes by number
codes_given : text_of CharSet.Ascii Mode.Text (codes "@@65@@13@@155@@223@{e4}@{E4}@{41}@01@31") ≡ Ok
    (TextItem.Character 65 ∷ TextItem.Character 13 ∷ TextItem.Character 155 ∷ TextItem.Character 223 ∷ TextItem.Character 155 ∷
    TextItem.Character 155 ∷ TextItem.Character 65 ∷ TextItem.Variable 1 ∷ TextItem.Variable 31 ∷
    [])
unfolding text_of piece_at escape_piece spelled spellings zscii_of zscii_of_unicode accented
codes_given = refl

code_unfit : text_of CharSet.Ascii Mode.Text (codes "a@@154@q") ≡ Err TextFault.BadCode
unfolding text_of piece_at escape_piece spelled spellings zscii_of zscii_of_unicode accented
code_unfit = refl

brace_missing : text_of CharSet.Ascii Mode.Text (codes "@{20ac") ≡ Err TextFault.UnknownEscape
unfolding text_of piece_at escape_piece spelled spellings zscii_of zscii_of_unicode accented
brace_missing = refl

euro : text_of CharSet.Latin1 Mode.Text (codes "@{20ac}") ≡ Err TextFault.NoZscii
unfolding text_of piece_at escape_piece spelled spellings zscii_of zscii_of_unicode accented
euro = refl
