use Rattle.std.proofs.Common.{◌≡◌, ◌++◌, drop}
use Rattle.inf_area.specs.Cells.{values_cells}
use Rattle.inf_area.proofs.cells.Cells.values.Given as goal

abbrev pub invariant-loop-value : goal.invariant-loop-value
invariant-loop-value l = l.self ++ values_cells (drop l.value-index l.values) ≡ l.initial.self ++ values_cells l.values
