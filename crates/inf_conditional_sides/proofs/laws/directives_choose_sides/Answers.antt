use Rattle.inf_conditional_sides.proofs.Keeping.{directives_choose_sides}
use Rattle.inf_conditional_sides.proofs.laws.directives_choose_sides.Goals as goal

pub returns : goal.returns
returns c = directives_choose_sides
