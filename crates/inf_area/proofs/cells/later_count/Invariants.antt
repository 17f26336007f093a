use Rattle.std.proofs.Common.{◌≡◌, drop, ◌+◌, ◌≤◌}
use Rattle.inf_area.specs.Cells.{later_count}
use Rattle.inf_area.proofs.cells.later_count.Given as goal

abbrev pub invariant-loop-cell : goal.invariant-loop-cell
invariant-loop-cell l = (l.count + later_count (drop l.cell-index l.cells) ≡ later_count l.cells) × (l.count ≤ l.cell-index)
