-- The lemma is the answer.
use Rattle.inf_veneer_laws.proofs.Gathered.{trees_are_gathered}
use Rattle.inf_veneer_laws.proofs.laws.trees_are_gathered.Goals as goal

pub returns : goal.returns
returns c = trees_are_gathered
