use Rattle.inf_laws.proofs.UnitLimits.{units_keep_within}
use Rattle.inf_laws.proofs.laws.units_keep_within_settings.Goals as goal

pub returns : goal.returns
returns c = units_keep_within
