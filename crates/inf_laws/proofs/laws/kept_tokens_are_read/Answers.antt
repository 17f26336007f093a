use Rattle.inf_laws.proofs.{KeptTokens.kept_tokens_are_read, KeptTokens.tokens_are_handed_on, KeptTurns.turns_read_pieces}
use Rattle.inf_laws.proofs.laws.kept_tokens_are_read.Goals as goal

pub returns : goal.returns
returns c = record { handed_on = tokens_are_handed_on; read = kept_tokens_are_read; turns = turns_read_pieces }
