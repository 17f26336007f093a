use Rattle.inf_limit_laws.proofs.Whole.{abbreviations_stay}
use Rattle.inf_limit_laws.proofs.laws.abbreviations_stay.Goals as goal

pub returns : goal.returns
returns c = abbreviations_stay
