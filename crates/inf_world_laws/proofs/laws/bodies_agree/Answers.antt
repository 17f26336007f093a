-- A lemma is the answer.
use Rattle.inf_world_laws.proofs.Parts.{bodies_agree}
use Rattle.inf_world_laws.proofs.laws.bodies_agree.Goals as goal

pub returns : goal.returns
returns c = bodies_agree
