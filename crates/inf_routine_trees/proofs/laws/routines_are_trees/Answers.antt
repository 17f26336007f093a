use Rattle.inf_routine_trees.proofs.RoutineTrees.{routines_are_trees}
use Rattle.inf_routine_trees.proofs.laws.routines_are_trees.Goals as goal

pub returns : goal.returns
returns c = routines_are_trees
