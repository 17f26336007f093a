-- The lemma is the answer.
use Rattle.inf_veneer_laws.proofs.Own.{own_properties_are_found}
use Rattle.inf_veneer_laws.proofs.laws.own_properties_are_found.Goals as goal

pub returns : goal.returns
returns c = own_properties_are_found
