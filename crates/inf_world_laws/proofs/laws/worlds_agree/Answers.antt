-- A lemma is the answer.
use Rattle.inf_world_laws.proofs.Whole.{worlds_agree}
use Rattle.inf_world_laws.proofs.laws.worlds_agree.Goals as goal

pub returns : goal.returns
returns c = worlds_agree
