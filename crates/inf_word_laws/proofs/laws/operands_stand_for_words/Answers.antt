use Rattle.inf_word_laws.proofs.Numbering.{operands_stand}
use Rattle.inf_word_laws.proofs.laws.operands_stand_for_words.Goals as goal

pub returns : goal.returns
returns c = operands_stand
