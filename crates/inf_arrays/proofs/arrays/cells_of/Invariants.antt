use Rattle.std.proofs.Common.{◌≡◌, ◌++◌, drop, map}
use Rattle.inf_arrays.specs.{Arrays.arrays_cells, Listing.listed}
use Rattle.inf_arrays.proofs.arrays.cells_of.Given as goal

abbrev pub invariant-loop-array : goal.invariant-loop-array
invariant-loop-array l = l.cells ++ arrays_cells (map listed (drop l.array-index l.arrays)) ≡ arrays_cells (map listed l.arrays)
