use Rattle.inf_program.proofs.Existing.{sources_have_programs}
use Rattle.inf_program.proofs.laws.sources_have_programs.Goals as goal

pub returns : goal.returns
returns c = sources_have_programs
