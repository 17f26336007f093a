-- The limits are those of the line.
use Rattle.std.specs.Prelude.{nat_eq, if◌then◌else◌}
use Rattle.inf_settings.specs.Settings.{place_of}
use Rattle.inf_row_tests.proofs.verbs.answer.Given as goal

abbrev pub ghosts-answer_under : goal.ghosts-answer_under
ghosts-answer_under a = record { most = λ s. if nat_eq (place_of s) 6 then a.limit else a.space }
