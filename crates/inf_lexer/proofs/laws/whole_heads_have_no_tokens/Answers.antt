use Rattle.inf_lexer.proofs.HeadLaws.{whole_heads_have_no_tokens}
use Rattle.inf_lexer.proofs.laws.whole_heads_have_no_tokens.Goals as goal

pub returns : goal.returns
returns c = whole_heads_have_no_tokens
