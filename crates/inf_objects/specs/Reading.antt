-- The property table as an interpreter reads it (Z-Machine Standard 1.1, section 12.4).
use Rattle.std.specs.Prelude.{ℕ, zero, suc, ◌+◌, ◌*◌, ◌/◌, ◌%◌, ◌<◌, List, [], ◌∷◌, ◌==◌, drop, length, map, nat_lt, take}
use Rattle.std.specs.Prelude.{if◌then◌else◌}
use Rattle.inf_area.specs.{declared.cells.Cell.Cell, declared.targets.Target.Target, declared.targets.Value.Value}
use Rattle.inf_properties.specs.declared.values.Property.{Property}
use Rattle.inf_objects.specs.Tables.{shown}

-- a property as an interpreter reads it: its number, and its data in words
pub record Row : Type 0 where
  pub number : ℕ
  pub words : List ℕ

-- the words that bytes are, the high byte of each first
abbrev pub words_of : List ℕ → List ℕ
words_of [] = []
words_of (high ∷ []) = []
words_of (high ∷ low ∷ bytes) = (256 * high + low) ∷ words_of bytes

-- the property whose data are the first `count` bytes
abbrev pub row_of : ℕ → ℕ → List ℕ → Row
row_of number count bytes = record { number = number; words = words_of (take count bytes) }

-- the length that a second size byte gives: its lower six bits, of which 0 means 64
abbrev pub long_count : ℕ → ℕ
long_count second = if second % 64 == 0 then 64 else second % 64

abbrev pub first_byte : List ℕ → ℕ
first_byte [] = 0
first_byte (b ∷ bytes) = b

-- The properties, at most `most`, up to a size byte 0. The lower six bits of the first size byte are the number. With its top bit
-- set a second byte has the length (section 12.4.2.1), and else the length is 1 or 2, by the next bit (section 12.4.2.2).
abbrev pub rows_read : ℕ → List ℕ → List Row
rows_read zero bytes = []
rows_read (suc most) [] = []
rows_read (suc most) (size ∷ bytes) =
    if size == 0 then []
    else if nat_lt size 128 then row_of (size % 64) (1 + size / 64 % 2) bytes ∷ rows_read most (drop (1 + size / 64 % 2) bytes)
    else row_of (size % 64) (long_count (first_byte bytes)) (drop 1 bytes) ∷ rows_read most (drop (1 + long_count (first_byte bytes)) bytes)

-- the properties of a table, behind its short name and the byte that has the length of this name in words (section 12.4)
abbrev pub table_read : List ℕ → List Row
table_read [] = []
table_read (count ∷ bytes) = rows_read (length bytes) (drop (2 * count) bytes)

-- the bytes of cells, where each value that is known later is put in
abbrev pub filled : (Target → ℕ) → List Cell → List ℕ
filled number_of [] = []
filled number_of (Cell.Byte b ∷ cells) = b ∷ filled number_of cells
filled number_of (Cell.Later t ∷ cells) = (number_of t / 256) ∷ (number_of t % 256) ∷ filled number_of cells

abbrev pub number_in : (Target → ℕ) → Value → ℕ
number_in number_of (Value.Known n) = n
number_in number_of (Value.Later t) = number_of t

-- a property with its values as numbers; one without values has a single 0
abbrev pub told : (Target → ℕ) → Property → Row
told number_of p = record { number = p.number; words = map (number_in number_of) (shown p.values) }

-- tells whether each number is below the one before, and the first below `most`
abbrev pub AreFallingBelow : ℕ → List Property → Type 0
AreFallingBelow most [] = Unit {0}
AreFallingBelow most (p ∷ properties) = (p.number < most) × AreFallingBelow p.number properties
