-- The story of `[ Main; print "hello"; ];`, byte by byte: 976 bytes of version 5 (Z-Machine Standard 1.1, sections 1, 11, 12 and 13).
use Rattle.std.specs.Prelude.{◌≡◌, ℕ, zero, suc, List, [], ◌∷◌, ◌++◌, codes, replicate}
use Rattle.inf_area.specs.{declared.cells.Cell.Cell, declared.scale.Scale.Scale, declared.targets.AreaName.AreaName}
use Rattle.inf_area.specs.declared.{targets.Target.Target, targets.Value.Value}
use Rattle.inf_code.specs.Code.{known}
use Rattle.inf_link.specs.declared.header.HeaderFields.{HeaderFields}
use Rattle.inf_story.specs.Stories.{story}
use Rattle.inf_tables.specs.Tables.{no_tables}

-- bytes that come again
abbrev pub times : ℕ → List ℕ → List ℕ
times zero bytes = []
times (suc n) bytes = bytes ++ times n bytes

-- The header: version 5, release 1; high memory and code at 0x3C0, the first instruction at 0x3C1, dictionary at 0x3B8, objects at 0x102,
-- variables at 0x1D8, read-only memory from 0x3B8; the serial number; abbreviations at 0x42; 244 fours, which add up to 0x1E6D; and 32 zeros.
abbrev pub header : List ℕ
header =
    5 ∷ 0 ∷ 0 ∷ 1 ∷ 3 ∷ 192 ∷ 3 ∷ 193 ∷ 3 ∷ 184 ∷ 1 ∷ 2 ∷ 1 ∷ 216 ∷ 3 ∷ 184 ∷ 0 ∷ 0 ∷ 50 ∷ 54 ∷ 49 ∷ 49 ∷ 51 ∷ 48 ∷ 0 ∷ 66 ∷ 0 ∷ 244 ∷ 30 ∷ 109
    ∷ 0 ∷ 0 ∷ replicate 32 0

-- three spaces, and 96 abbreviations that are these
abbrev pub low_strings : List ℕ
low_strings = 128 ∷ 0 ∷ times 96 (0 ∷ 32 ∷ [])

-- 63 defaults of properties; and the four classes of the language, each without attributes and relatives, with its table
abbrev pub objects : List ℕ
objects =
    replicate 126 0 ++ (replicate 12 0 ++ 1 ∷ 184 ∷ []) ++ (replicate 12 0 ++ 1 ∷ 190 ∷ []) ++ (replicate 12 0 ++ 1 ∷ 198 ∷ [])
    ++ (replicate 12 0 ++ 1 ∷ 206 ∷ [])

-- the names `Class`, `Object`, `Routine` and `String`, and no properties; and no classes
abbrev pub tables : List ℕ
tables =
    (2 ∷ 17 ∷ 17 ∷ 155 ∷ 24 ∷ 0 ∷ []) ++ (3 ∷ 18 ∷ 135 ∷ 61 ∷ 72 ∷ 228 ∷ 165 ∷ 0 ∷ []) ++ (3 ∷ 18 ∷ 244 ∷ 107 ∷ 46 ∷ 205 ∷ 69 ∷ 0 ∷ [])
    ++ (3 ∷ 19 ∷ 25 ∷ 93 ∷ 211 ∷ 176 ∷ 165 ∷ 0 ∷ []) ++ (0 ∷ 0 ∷ [])

-- 240 variables; and a dictionary with three separators, entries of 9 bytes, and no words
abbrev pub behind : List ℕ
behind = replicate 480 0 ++ (3 ∷ 46 ∷ 44 ∷ 34 ∷ 9 ∷ 0 ∷ 0 ∷ 0 ∷ [])

-- the first routine calls `Main` and ends the story; `Main` prints and returns 1
abbrev pub code : List ℕ
code = 0 ∷ 143 ∷ 0 ∷ 242 ∷ 186 ∷ 0 ∷ 0 ∷ 0 ∷ 0 ∷ 178 ∷ 53 ∷ 81 ∷ 198 ∷ 133 ∷ 176 ∷ 0 ∷ []

abbrev pub hello : List ℕ
hello = header ++ low_strings ++ objects ++ tables ++ behind ++ code

-- the story of the cells of `Main`
abbrev pub fields : HeaderFields
fields = record { release = 1; serial = codes "261130"; scale = Scale.Four }

abbrev pub main_code : List Cell
main_code = known (0 ∷ 178 ∷ 53 ∷ 81 ∷ 198 ∷ 133 ∷ 176 ∷ 0 ∷ [])

abbrev pub HelloHasBytes : Type 0
HelloHasBytes = story fields 8 (Value.Later (Target.Place AreaName.Code 8) ∷ []) main_code [] no_tables ≡ hello
