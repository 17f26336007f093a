use Rattle.inf_machine.proofs.Ending.{sources_end}
use Rattle.inf_machine.proofs.laws.sources.Goals as goal

pub returns : goal.returns
returns g c = sources_end
