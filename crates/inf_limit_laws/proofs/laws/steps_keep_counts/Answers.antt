use Rattle.inf_limit_laws.proofs.Whole.{steps_keep_counts}
use Rattle.inf_limit_laws.proofs.laws.steps_keep_counts.Goals as goal

pub returns : goal.returns
returns c = steps_keep_counts
