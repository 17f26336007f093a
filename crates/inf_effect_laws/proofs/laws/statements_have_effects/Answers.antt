-- The lemma is the answer.
use Rattle.inf_effect_laws.proofs.Statements.{effects_are_laid}
use Rattle.inf_effect_laws.proofs.laws.statements_have_effects.Goals as goal

pub returns : goal.returns
returns c = effects_are_laid
