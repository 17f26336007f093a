-- The lemma is the answer.
use Rattle.inf_veneer_laws.proofs.Spelling.{texts_are_spelled}
use Rattle.inf_veneer_laws.proofs.laws.texts_are_spelled.Goals as goal

pub returns : goal.returns
returns c = texts_are_spelled
