-- A lemma is the answer.
use Rattle.inf_verb_laws.proofs.Lines.{lines_are_read}
use Rattle.inf_verb_laws.proofs.laws.lines_are_read.Goals as goal

pub returns : goal.returns
returns c = lines_are_read
