-- A lemma is the answer.
use Rattle.inf_spelling_laws.proofs.Spelling.{parts_are_spelled}
use Rattle.inf_spelling_laws.proofs.laws.parts_are_spelled.Goals as goal

pub returns : goal.returns
returns c = parts_are_spelled
