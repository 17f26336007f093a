-- The lemma is the answer.
use Rattle.inf_control_laws.proofs.Units.{units_run}
use Rattle.inf_control_laws.proofs.laws.units_run.Goals as goal

pub returns : goal.returns
returns c = units_run
