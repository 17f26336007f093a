-- The lemma is the answer.
use Rattle.inf_veneer_laws.proofs.Calling.{calls_run_texts}
use Rattle.inf_veneer_laws.proofs.laws.calls_run_texts.Goals as goal

pub returns : goal.returns
returns c = calls_run_texts
