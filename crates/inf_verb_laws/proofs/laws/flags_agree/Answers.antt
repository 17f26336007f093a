-- A lemma is the answer.
use Rattle.inf_verb_laws.proofs.Flags.{flags_agree}
use Rattle.inf_verb_laws.proofs.laws.flags_agree.Goals as goal

pub returns : goal.returns
returns c = flags_agree
