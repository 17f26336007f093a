-- The limits are those of the line.
use Rattle.inf_word_tests.proofs.names.answer.Given as goal

abbrev pub ghosts-answer_under : goal.ghosts-answer_under
ghosts-answer_under a = record { most = λ _. a.limit }
