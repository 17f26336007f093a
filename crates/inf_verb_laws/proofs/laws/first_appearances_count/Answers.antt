-- Lemmas are the answers.
use Rattle.inf_verb_laws.proofs.First.{actions_agree, routines_agree}
use Rattle.inf_verb_laws.proofs.laws.first_appearances_count.Goals as goal

pub returns : goal.returns
returns c = record { actions = actions_agree; routines = routines_agree }
