-- The lemmas are the answers.
use Rattle.inf_effect_laws.proofs.Units.{parts_have_effects, units_have_effects}
use Rattle.inf_effect_laws.proofs.laws.units_have_effects.Goals as goal

pub returns-clause-unit : goal.returns-clause-unit
returns-clause-unit c = units_have_effects

pub returns-clause-part : goal.returns-clause-part
returns-clause-part c = parts_have_effects
