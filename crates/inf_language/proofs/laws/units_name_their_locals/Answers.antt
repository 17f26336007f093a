use Rattle.inf_language.proofs.UnitsNamed.{units_name_their_locals}
use Rattle.inf_language.proofs.laws.units_name_their_locals.Goals as goal

pub returns : goal.returns
returns c = units_name_their_locals
