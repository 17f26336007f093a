use Rattle.inf_language.proofs.ExpressionsGathered.{expressions_are_gathered}
use Rattle.inf_language.proofs.laws.expressions_are_gathered.Goals as goal

pub returns : goal.returns
returns c = expressions_are_gathered
