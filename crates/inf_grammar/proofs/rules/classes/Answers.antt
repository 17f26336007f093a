-- By evaluation.
use Rattle.std.proofs.Common.{refl}
use Rattle.inf_grammar.specs.{Language.grammar, Language.known, Tables.all_classes}
use Rattle.inf_grammar.proofs.rules.classes.Goals as goal

pub returns : goal.returns
unfolding all_classes grammar known
returns c = refl
