use Rattle.inf_scanner.proofs.TokenLaws.{nothing_is_the_end}
use Rattle.inf_scanner.proofs.laws.nothing_is_the_end.Goals as goal

pub returns : goal.returns
returns c = nothing_is_the_end
