use Rattle.inf_machine.proofs.TokenLaws.{bad_tokens_begin_nothing}
use Rattle.inf_machine.proofs.laws.bad_tokens.Goals as goal

pub returns : goal.returns
returns g c = bad_tokens_begin_nothing
