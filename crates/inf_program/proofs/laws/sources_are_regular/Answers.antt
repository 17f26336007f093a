use Rattle.inf_program.proofs.Existing.{sources_are_regular}
use Rattle.inf_program.proofs.laws.sources_are_regular.Goals as goal

pub returns : goal.returns
returns c = sources_are_regular
