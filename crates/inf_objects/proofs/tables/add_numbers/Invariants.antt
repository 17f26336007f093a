use Rattle.std.proofs.Common.{◌≡◌, ◌++◌, drop}
use Rattle.inf_area.specs.Cells.{values_cells}
use Rattle.inf_objects.specs.Tables.{class_values}
use Rattle.inf_objects.proofs.tables.add_numbers.Given as goal

abbrev pub invariant-loop-number : goal.invariant-loop-number
invariant-loop-number l =
    l.cells ++ values_cells (class_values (drop l.number-index l.numbers)) ≡ l.initial.cells ++ values_cells (class_values l.numbers)
