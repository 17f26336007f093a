use Rattle.inf_language.proofs.UnitsSifted.{units_are_sifted_alone}
use Rattle.inf_language.proofs.laws.units_are_sifted_alone.Goals as goal

pub returns : goal.returns
returns c = units_are_sifted_alone
