use Rattle.inf_program.proofs.Written.{outcomes_are_written}
use Rattle.inf_program.proofs.laws.outcomes_are_written.Goals as goal

pub returns : goal.returns
returns c = outcomes_are_written
