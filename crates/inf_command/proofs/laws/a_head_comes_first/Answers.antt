use Rattle.inf_command.proofs.Heads.{comes_first}
use Rattle.inf_command.proofs.laws.a_head_comes_first.Goals as goal

pub returns : goal.returns
returns c = comes_first
