-- The lemma is the answer.
use Rattle.inf_label_laws.proofs.Owning.{labels_are_own}
use Rattle.inf_label_laws.proofs.laws.labels_are_own.Goals as goal

pub returns : goal.returns
returns c = labels_are_own
