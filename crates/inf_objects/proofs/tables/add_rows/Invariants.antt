use Rattle.std.proofs.Common.{◌≡◌, ◌≤◌, ◌++◌}
use Rattle.inf_objects.specs.Tables.{falling, rows_cells, rows_of}
use Rattle.inf_objects.proofs.tables.add_rows.Given as goal

abbrev pub decreases-loop-left : goal.decreases-loop-left
decreases-loop-left l = l.left

abbrev pub invariant-loop-left : goal.invariant-loop-left
invariant-loop-left l = (l.cells ++ rows_cells (falling l.left (rows_of l.part l.object)) ≡ l.initial.cells ++ rows_cells
    (falling l.count (rows_of l.part l.object))) × (l.left ≤ l.count)
