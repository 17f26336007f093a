-- Routines as the items that they were made of.
use Rattle.std.specs.Prelude.{ℕ, Bool, List, [], ◌∷◌, flat_map}
use Rattle.inf_opcode.specs.{Cells.Cell, Cells.Of, declared.cells.Special.Special, declared.instructions.Label.Label}
use Rattle.inf_opcode.specs.Instructions.{Parts, IsProper, instruction_cells}
use Rattle.inf_assembler.specs.Routines.{Contents}

-- a label mark, or an instruction
pub data Item : Type 0 where
  Marked : (label : Label) → Item
  Written : (parts : Parts) → Item

abbrev pub item_cells : Item → List Cell
item_cells (Marked label) = Of (Special.Marks label) ∷ []
item_cells (Written parts) = instruction_cells parts

abbrev pub items_cells : List Item → List Cell
items_cells items = flat_map item_cells items

-- a routine of items
abbrev pub routine_of : ℕ → List Item → Bool → Contents
routine_of locals items is_final = record { locals = locals; cells = items_cells items; is_final = is_final }

-- each instruction is as the instruction set says
abbrev pub AreProper : List Item → Type 0
AreProper [] = Unit {0}
AreProper ((Marked label) ∷ items) = AreProper items
AreProper ((Written parts) ∷ items) = IsProper parts × AreProper items

-- the instructions alone
abbrev pub instructions : List Item → List Parts
instructions [] = []
instructions ((Marked label) ∷ items) = instructions items
instructions ((Written parts) ∷ items) = parts ∷ instructions items
