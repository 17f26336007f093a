-- By evaluation.
use Rattle.std.proofs.Common.{refl}
use Rattle.inf_grammar.specs.{Language.grammar, Language.known, Tables.all_rules}
use Rattle.inf_grammar.proofs.rules.rules.Goals as goal

pub returns : goal.returns
unfolding all_rules grammar known
returns c = refl
