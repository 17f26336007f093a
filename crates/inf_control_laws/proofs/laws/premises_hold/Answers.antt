-- The lemma is the answer.
use Rattle.inf_control_laws.proofs.Premises.{premises_hold}
use Rattle.inf_control_laws.proofs.laws.premises_hold.Goals as goal

pub returns : goal.returns
returns c = premises_hold
