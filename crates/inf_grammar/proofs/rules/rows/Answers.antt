-- By evaluation.
use Rattle.std.proofs.Common.{refl}
use Rattle.inf_grammar.specs.{Language.grammar, Language.known, Tables.all_rows}
use Rattle.inf_grammar.proofs.rules.rows.Goals as goal

pub returns : goal.returns
unfolding all_rows grammar known
returns c = refl
