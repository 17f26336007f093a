use Rattle.std.proofs.Common.{◌≡◌, ◌++◌, drop}
use Rattle.inf_arrays.specs.Kinds.{bytes_cells}
use Rattle.inf_arrays.proofs.arrays.add_bytes.Given as goal

abbrev pub invariant-loop-value : goal.invariant-loop-value
invariant-loop-value l = l.cells ++ bytes_cells (drop l.value-index l.values) ≡ l.initial.cells ++ bytes_cells l.values
