-- The lemma is the answer.
use Rattle.inf_veneer_laws.proofs.TextsRead.{texts_are_read}
use Rattle.inf_veneer_laws.proofs.laws.texts_are_read.Goals as goal

pub returns : goal.returns
returns c = texts_are_read
