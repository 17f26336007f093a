use Rattle.inf_limit_laws.proofs.Whole.{states_come_behind}
use Rattle.inf_limit_laws.proofs.laws.states_come_behind.Goals as goal

pub returns : goal.returns
returns c = states_come_behind
