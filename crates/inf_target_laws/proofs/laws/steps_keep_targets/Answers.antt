use Rattle.inf_target_laws.proofs.Walked.{steps_keep_targets}
use Rattle.inf_target_laws.proofs.laws.steps_keep_targets.Goals as goal

pub returns : goal.returns
returns c = steps_keep_targets
