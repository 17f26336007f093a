-- A lemma is the answer.
use Rattle.inf_world_laws.proofs.Attributes.{attributes_agree}
use Rattle.inf_world_laws.proofs.laws.attributes_agree.Goals as goal

pub returns : goal.returns
returns c = attributes_agree
