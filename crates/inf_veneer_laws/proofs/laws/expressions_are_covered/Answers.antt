-- The lemma is the answer.
use Rattle.inf_veneer_laws.proofs.Covered.{routines_are_covered}
use Rattle.inf_veneer_laws.proofs.laws.expressions_are_covered.Goals as goal

pub returns : goal.returns
returns c = routines_are_covered
