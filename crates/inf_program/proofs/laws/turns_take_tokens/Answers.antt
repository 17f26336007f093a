use Rattle.inf_program.proofs.Grouping.{turns_take_tokens}
use Rattle.inf_program.proofs.laws.turns_take_tokens.Goals as goal

pub returns : goal.returns
returns c = turns_take_tokens
