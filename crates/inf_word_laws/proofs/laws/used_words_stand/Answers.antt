use Rattle.inf_word_laws.proofs.Steps.{standing_are_there, used_words_stand}
use Rattle.inf_word_laws.proofs.laws.used_words_stand.Goals as goal

pub returns : goal.returns
returns c = record { used = used_words_stand; there = standing_are_there }
