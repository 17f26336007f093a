use Rattle.std.proofs.Common.{◌≡◌, ◌+◌, ◌++◌, drop}
use Rattle.inf_area.specs.Cells.{values_cells}
use Rattle.inf_objects.specs.Tables.{class_values}
use Rattle.inf_tables.specs.Areas.{class_numbers_from}
use Rattle.inf_tables.proofs.areas.class_number_cells.Given as goal

abbrev pub invariant-loop-place : goal.invariant-loop-place
invariant-loop-place l = l.cells ++ values_cells (class_values (class_numbers_from (5 + l.place) (drop l.place l.objects))) ≡ values_cells
    (class_values (class_numbers_from 5 l.objects))
