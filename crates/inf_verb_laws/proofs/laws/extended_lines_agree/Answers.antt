-- A lemma is the answer.
use Rattle.inf_verb_laws.proofs.Extended.{extend_agrees}
use Rattle.inf_verb_laws.proofs.laws.extended_lines_agree.Goals as goal

pub returns : goal.returns
returns c = extend_agrees
