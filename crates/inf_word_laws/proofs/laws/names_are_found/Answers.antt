use Rattle.inf_word_laws.proofs.Numbering.{names_are_found}
use Rattle.inf_word_laws.proofs.laws.names_are_found.Goals as goal

pub returns : goal.returns
returns c = names_are_found
