use Rattle.inf_routine_trees.proofs.StatementTrees.{statements_are_laid_as_trees}
use Rattle.inf_routine_trees.proofs.laws.statements_are_laid_as_trees.Goals as goal

pub returns : goal.returns
returns c = statements_are_laid_as_trees
