-- The lemma is the answer.
use Rattle.inf_control_laws.proofs.Plain.{plain_statements_run}
use Rattle.inf_control_laws.proofs.laws.plain_statements_run.Goals as goal

pub returns : goal.returns
returns c = plain_statements_run
