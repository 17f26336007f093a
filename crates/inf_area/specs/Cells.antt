-- Cells, the parts of a story's tables, as bytes and as fixups.
use Rattle.std.specs.Prelude.{ℕ, ◌+◌, ◌/◌, ◌%◌, List, [], ◌∷◌, ◌++◌}
use Rattle.inf_area.specs.declared.{cells.Cell.Cell, fixups.Fixup.Fixup, targets.AreaName.AreaName, targets.Value.Value}

-- the bytes of cells, with two zeros for each number that is known later
abbrev pub bytes_of : List Cell → List ℕ
bytes_of [] = []
bytes_of (Cell.Byte byte ∷ cells) = byte ∷ bytes_of cells
bytes_of (Cell.Later target ∷ cells) = 0 ∷ 0 ∷ bytes_of cells

-- the number of bytes of cells
abbrev pub size_of : List Cell → ℕ
size_of [] = 0
size_of (Cell.Byte byte ∷ cells) = 1 + size_of cells
size_of (Cell.Later target ∷ cells) = 2 + size_of cells

-- the number of cells that are known later
abbrev pub later_count : List Cell → ℕ
later_count [] = 0
later_count (Cell.Byte byte ∷ cells) = later_count cells
later_count (Cell.Later target ∷ cells) = 1 + later_count cells

-- the fixups of cells that begin in an area at a place
abbrev pub fixups_of : AreaName → ℕ → List Cell → List Fixup
fixups_of area place [] = []
fixups_of area place (Cell.Byte byte ∷ cells) = fixups_of area (place + 1) cells
fixups_of area place (Cell.Later target ∷ cells) = record { area = area; place = place; target = target } ∷ fixups_of area (place + 2) cells

-- a known word, its high byte first
abbrev pub word_cells : ℕ → List Cell
word_cells number = Cell.Byte (number / 256) ∷ Cell.Byte (number % 256) ∷ []

-- a value in two bytes
abbrev pub value_cells : Value → List Cell
value_cells (Value.Known number) = word_cells number
value_cells (Value.Later target) = Cell.Later target ∷ []

-- some values, one behind the other
abbrev pub values_cells : List Value → List Cell
values_cells [] = []
values_cells (v ∷ values) = value_cells v ++ values_cells values
