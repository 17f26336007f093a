use Rattle.inf_conditional_sides.proofs.Ending.{ends_are_told_by_sides}
use Rattle.inf_conditional_sides.proofs.laws.ends_are_told_by_sides.Goals as goal

pub returns : goal.returns
returns c = ends_are_told_by_sides
