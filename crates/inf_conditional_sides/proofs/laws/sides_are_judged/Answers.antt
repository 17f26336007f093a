use Rattle.inf_conditional_sides.proofs.Same.{sides_are_judged}
use Rattle.inf_conditional_sides.proofs.laws.sides_are_judged.Goals as goal

pub returns : goal.returns
returns c = sides_are_judged
