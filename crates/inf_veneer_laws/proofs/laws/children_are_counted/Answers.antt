-- The lemma is the answer.
use Rattle.inf_veneer_laws.proofs.Children.{children_are_counted}
use Rattle.inf_veneer_laws.proofs.laws.children_are_counted.Goals as goal

pub returns : goal.returns
returns c = children_are_counted
