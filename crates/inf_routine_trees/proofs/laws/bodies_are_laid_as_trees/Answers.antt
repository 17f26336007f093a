use Rattle.inf_routine_trees.proofs.BodyTrees.{bodies_are_laid_as_trees}
use Rattle.inf_routine_trees.proofs.laws.bodies_are_laid_as_trees.Goals as goal

pub returns : goal.returns
returns c = bodies_are_laid_as_trees
