use Rattle.inf_conditional_sides.proofs.Telling.{conditions_are_told}
use Rattle.inf_conditional_sides.proofs.laws.conditions_are_told.Goals as goal

pub returns : goal.returns
returns c = conditions_are_told
