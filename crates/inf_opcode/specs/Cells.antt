-- Cells, as which the items of a routine are written while it is open.
use Rattle.std.specs.Prelude.{ℕ, ◌+◌, ◌-◌, Bool, List, [], ◌∷◌, ◌++◌, map, take, drop, if◌then◌else◌, flat_map}
use Rattle.inf_opcode.specs.{declared.cells.Kept.Kept, declared.cells.Special.Special}

-- A byte, or a special part, whose bytes are known when the routine is whole.
pub data Cell : Type 0 where
  Plain : (byte : ℕ) → Cell
  Of : (what : Special) → Cell

abbrev pub plain : List ℕ → List Cell
plain bytes = map Plain bytes

-- Size of a special part in bytes while the routine is open: a branch takes two, and so does a number that is known later.
abbrev pub special_size : Special → ℕ
special_size (Special.Marks label) = 0
special_size (Special.Branches branch) = 2
special_size (Special.Jumps label) = 2
special_size (Special.Refers target) = 2

-- Bytes while the routine is open: a branch has its sense in the top bit (Z-Machine Standard 1.1, section 4.7), and the rest is zero.
abbrev pub sense_bit : Bool → ℕ
sense_bit sense = if sense then 128 else 0

abbrev pub special_bytes : Special → List ℕ
special_bytes (Special.Marks label) = []
special_bytes (Special.Branches branch) = sense_bit branch.sense ∷ 0 ∷ []
special_bytes (Special.Jumps label) = 0 ∷ 0 ∷ []
special_bytes (Special.Refers target) = 0 ∷ 0 ∷ []

abbrev pub cell_bytes : Cell → List ℕ
cell_bytes (Plain byte) = byte ∷ []
cell_bytes (Of what) = special_bytes what

abbrev pub long_bytes : List Cell → List ℕ
long_bytes cells = flat_map cell_bytes cells

-- Number of labels, branches and jumps, and number of references.
abbrev pub label_count : List Cell → ℕ
label_count [] = 0
label_count ((Plain byte) ∷ cells) = label_count cells
label_count ((Of (Special.Marks label)) ∷ cells) = 1 + label_count cells
label_count ((Of (Special.Branches branch)) ∷ cells) = 1 + label_count cells
label_count ((Of (Special.Jumps label)) ∷ cells) = 1 + label_count cells
label_count ((Of (Special.Refers target)) ∷ cells) = label_count cells

abbrev pub fixup_count : List Cell → ℕ
fixup_count [] = 0
fixup_count ((Plain byte) ∷ cells) = fixup_count cells
fixup_count ((Of (Special.Marks label)) ∷ cells) = fixup_count cells
fixup_count ((Of (Special.Branches branch)) ∷ cells) = fixup_count cells
fixup_count ((Of (Special.Jumps label)) ∷ cells) = fixup_count cells
fixup_count ((Of (Special.Refers target)) ∷ cells) = 1 + fixup_count cells

-- Special parts of cells that begin at a place and are all long, each with its place.
abbrev pub kept_from : ℕ → List Cell → List Kept
kept_from place [] = []
kept_from place ((Plain byte) ∷ cells) = kept_from (place + 1) cells
kept_from place ((Of what) ∷ cells) = record { place = place; what = what } ∷ kept_from (place + special_size what) cells

-- Cells that bytes from a place on and the special parts kept of them stand for.
abbrev pub cells_of : ℕ → List Kept → List ℕ → List Cell
cells_of place [] bytes = plain bytes
cells_of place (kept ∷ others) bytes = plain (take (kept.place - place) bytes)
    ++ Of kept.what ∷ cells_of (kept.place + special_size kept.what) others (drop (kept.place + special_size kept.what - place) bytes)
