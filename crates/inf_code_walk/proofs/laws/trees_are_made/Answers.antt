-- The lemma is the answer.
use Rattle.inf_code_walk.proofs.Rows.{trees_are_made}
use Rattle.inf_code_walk.proofs.laws.trees_are_made.Goals as goal

pub returns : goal.returns
returns c = trees_are_made
