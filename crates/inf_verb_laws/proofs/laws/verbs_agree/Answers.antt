-- Lemmas are the answers.
use Rattle.inf_verb_laws.proofs.Saying.{lines_agree, words_agree}
use Rattle.inf_verb_laws.proofs.laws.verbs_agree.Goals as goal

pub returns : goal.returns
returns c = record { lines = lines_agree; words = words_agree }
