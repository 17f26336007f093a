-- By evaluation.
use Rattle.std.proofs.Common.{refl}
use Rattle.inf_grammar.specs.{Language.grammar, Language.known, Tables.all_parts}
use Rattle.inf_grammar.proofs.rules.parts.Goals as goal

pub returns : goal.returns
unfolding all_parts grammar known
returns c = refl
