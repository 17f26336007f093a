-- Lemmas are the answers.
use Rattle.inf_number_laws.proofs.{Untold.sources_keep, Untold.untold_is_sound, Whole.trees_keep}
use Rattle.inf_number_laws.proofs.laws.trees_keep_their_meaning.Goals as goal

pub returns : goal.returns
returns c = record { trees = trees_keep; sound = untold_is_sound; texts = sources_keep }
