-- The fields of a routine's offsets (Z-Machine Standard 1.1, sections 4.7 and 15, jump).
use Rattle.std.specs.Prelude.{ℕ, ◌+◌, ◌<◌, List, [], ◌∷◌, ◌++◌, Option, Some, None, if◌then◌else◌}
use Rattle.inf_opcode.specs.{Cells.Cell, Cells.Of, Cells.Plain, Cells.special_size, declared.cells.Special.Special}
use Rattle.inf_assembler.specs.Places.{Places, is_short_to, size_at, offset_to, branch_offset}
use Rattle.inf_assembler.specs.Routines.{Contents, long_places, places}

-- a field that can hold `values` values, and the offset that it takes, or none where that does not fit
pub record Field : Type 0 where
  pub values : ℕ
  pub offset : Option ℕ

abbrev pub field_at : Places → Places → ℕ → ℕ → Special → List Field
field_at long places old new (Special.Marks label) = []
field_at long places old new (Special.Branches branch) =
    let short = is_short_to long old branch.target in
    record { values = if short then 64 else 16384; offset = branch_offset places (new + (if short then 1 else 2)) branch.target } ∷ []
field_at long places old new (Special.Jumps label) =
    record { values = 65536; offset = offset_to 32768 (new + 2) (places label.number) } ∷ []
field_at long places old new (Special.Refers target) = []

-- the fields of cells that begin at the place `new`, and with all branches long at `old`
abbrev pub fields : Places → Places → ℕ → ℕ → List Cell → List Field
fields long places old new [] = []
fields long places old new ((Plain byte) ∷ cells) = fields long places (old + 1) (new + 1) cells
fields long places old new ((Of what) ∷ cells) =
    field_at long places old new what ++ fields long places (old + special_size what) (new + size_at long old what) cells

abbrev pub routine_fields : ℕ → Contents → List Field
routine_fields place contents = fields (long_places place contents) (places place contents) (place + 1) (place + 1) contents.cells

-- the offset is there, and is one of `values` values
abbrev pub IsBelow : ℕ → Option ℕ → Type 0
IsBelow values None = ⊥
IsBelow values (Some offset) = offset < values

abbrev pub AreWithin : List Field → Type 0
AreWithin [] = Unit {0}
AreWithin (field ∷ others) = IsBelow field.values field.offset × AreWithin others
