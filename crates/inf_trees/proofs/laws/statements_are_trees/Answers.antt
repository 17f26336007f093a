use Rattle.inf_trees.proofs.StatementsRead.{statements_are_trees}
use Rattle.inf_trees.proofs.laws.statements_are_trees.Goals as goal

pub returns : goal.returns
returns c = statements_are_trees
