use Rattle.inf_conditional_sides.proofs.Seating.{tokens_rest}
use Rattle.inf_conditional_sides.proofs.laws.tokens_rest.Goals as goal

pub returns : goal.returns
returns c = tokens_rest
