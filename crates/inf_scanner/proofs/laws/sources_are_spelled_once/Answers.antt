use Rattle.inf_scanner.proofs.SpellingLaws.{sources_are_spelled_once}
use Rattle.inf_scanner.proofs.laws.sources_are_spelled_once.Goals as goal

pub returns : goal.returns
returns c = sources_are_spelled_once
