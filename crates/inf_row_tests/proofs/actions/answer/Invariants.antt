-- The limits are those of the line.
use Rattle.inf_row_tests.proofs.actions.answer.Given as goal

abbrev pub ghosts-answer_under : goal.ghosts-answer_under
ghosts-answer_under a = record { most = λ _. a.limit }
