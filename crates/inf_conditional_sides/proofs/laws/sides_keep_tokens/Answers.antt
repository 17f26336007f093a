use Rattle.inf_conditional_sides.proofs.Keeping.{sides_keep_tokens}
use Rattle.inf_conditional_sides.proofs.laws.sides_keep_tokens.Goals as goal

pub returns : goal.returns
returns c = sides_keep_tokens
