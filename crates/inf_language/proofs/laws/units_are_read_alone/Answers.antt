use Rattle.inf_language.proofs.UnitsAlone.{units_are_read_alone}
use Rattle.inf_language.proofs.laws.units_are_read_alone.Goals as goal

pub returns : goal.returns
returns c = units_are_read_alone
