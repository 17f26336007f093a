use Rattle.inf_scanner.proofs.TokenLaws.{tokens_take_bytes}
use Rattle.inf_scanner.proofs.laws.tokens_take_bytes.Goals as goal

pub returns : goal.returns
returns c = tokens_take_bytes
