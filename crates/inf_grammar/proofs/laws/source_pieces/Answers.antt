use Rattle.inf_grammar.proofs.SourceLaws.{sources_have_pieces}
use Rattle.inf_grammar.proofs.laws.source_pieces.Goals as goal

pub returns : goal.returns
returns c = sources_have_pieces
