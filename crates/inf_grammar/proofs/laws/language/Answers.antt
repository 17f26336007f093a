use Rattle.inf_grammar.specs.Evaluated.{language_is_decided}
use Rattle.inf_grammar.proofs.laws.language.Goals as goal

pub returns : goal.returns
returns c = language_is_decided
