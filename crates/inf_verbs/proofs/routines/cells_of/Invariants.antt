use Rattle.std.proofs.Common.{◌≡◌, ◌++◌}
use Rattle.inf_verbs.specs.Routines.{routines_cells}
use Rattle.inf_verbs.proofs.routines.cells_of.Given as goal

abbrev pub invariant-loop-routine : goal.invariant-loop-routine
invariant-loop-routine l = l.cells ++ routines_cells l.routine-iterator ≡ routines_cells l.routines.keys
