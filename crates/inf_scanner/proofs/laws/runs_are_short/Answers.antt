use Rattle.inf_scanner.proofs.TokenLaws.{runs_are_short}
use Rattle.inf_scanner.proofs.laws.runs_are_short.Goals as goal

pub returns : goal.returns
returns c = runs_are_short
