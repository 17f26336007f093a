use Rattle.inf_program.proofs.Outcomes.{programs_have_their_outcome}
use Rattle.inf_program.proofs.laws.programs_have_their_outcome.Goals as goal

pub returns : goal.returns
returns c = programs_have_their_outcome
