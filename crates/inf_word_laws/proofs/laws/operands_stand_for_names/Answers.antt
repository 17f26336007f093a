use Rattle.inf_word_laws.proofs.Numbering.{operands_named}
use Rattle.inf_word_laws.proofs.laws.operands_stand_for_names.Goals as goal

pub returns : goal.returns
returns c = operands_named
