use Rattle.inf_lexer.proofs.AnswerLaws.{tokens_are_the_sources}
use Rattle.inf_lexer.proofs.laws.tokens_are_the_sources.Goals as goal

pub returns : goal.returns
returns c = tokens_are_the_sources
