use Rattle.inf_target_laws.proofs.Walked.{targets_stand}
use Rattle.inf_target_laws.proofs.laws.targets_stand.Goals as goal

pub returns : goal.returns
returns c = targets_stand
