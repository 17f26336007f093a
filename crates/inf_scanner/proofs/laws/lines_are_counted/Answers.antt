use Rattle.inf_scanner.proofs.SpellingLaws.{lines_are_counted}
use Rattle.inf_scanner.proofs.laws.lines_are_counted.Goals as goal

pub returns : goal.returns
returns c = lines_are_counted
