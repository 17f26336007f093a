-- The lemma is the answer.
use Rattle.inf_control_laws.proofs.Statements.{statements_run}
use Rattle.inf_control_laws.proofs.laws.statements_run.Goals as goal

pub returns : goal.returns
returns c = statements_run
