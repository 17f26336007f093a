use Rattle.inf_word_laws.proofs.Steps.{steps_keep_words}
use Rattle.inf_word_laws.proofs.laws.steps_keep_words.Goals as goal

pub returns : goal.returns
returns c = steps_keep_words
