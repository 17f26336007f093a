use Rattle.inf_lexer.proofs.HeadLaws.{heads_have_no_tokens}
use Rattle.inf_lexer.proofs.laws.heads_have_no_tokens.Goals as goal

pub returns : goal.returns
returns c = heads_have_no_tokens
