use Rattle.inf_compile.proofs.OutcomeLaws.{outcomes_are_unique}
use Rattle.inf_compile.proofs.laws.outcomes_are_unique.Goals as goal

pub returns : goal.returns
returns c = outcomes_are_unique
