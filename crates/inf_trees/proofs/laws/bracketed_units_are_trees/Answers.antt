use Rattle.inf_trees.proofs.StatementsRead.{bracketed_units_are_trees}
use Rattle.inf_trees.proofs.laws.bracketed_units_are_trees.Goals as goal

pub returns : goal.returns
returns c = bracketed_units_are_trees
