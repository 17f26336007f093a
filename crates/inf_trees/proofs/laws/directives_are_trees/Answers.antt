use Rattle.inf_trees.proofs.DirectivesRead.{directives_are_trees}
use Rattle.inf_trees.proofs.laws.directives_are_trees.Goals as goal

pub returns : goal.returns
returns c = directives_are_trees
