use Rattle.inf_conditional_sides.proofs.Running.{tokens_go_by_sides}
use Rattle.inf_conditional_sides.proofs.laws.tokens_go_by_sides.Goals as goal

pub returns : goal.returns
returns c = tokens_go_by_sides
