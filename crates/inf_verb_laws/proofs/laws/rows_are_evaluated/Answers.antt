-- Lemmas are the answers.
use Rattle.inf_verb_laws.proofs.Rows.{lines_are_shown, words_are_shown}
use Rattle.inf_verb_laws.proofs.laws.rows_are_evaluated.Goals as goal

pub returns : goal.returns
returns c = record { lines = lines_are_shown; words = words_are_shown }
