-- The limits are those of the line.
use Rattle.std.specs.Prelude.{nat_eq, if◌then◌else◌}
use Rattle.inf_settings.specs.Settings.{place_of}
use Rattle.inf_row_tests.proofs.code_rows.answer.Given as goal

abbrev pub ghosts-answer_under : goal.ghosts-answer_under
ghosts-answer_under a =
    record {
      most = λ s. if nat_eq (place_of s) 3 then a.limits.labels else if nat_eq (place_of s) 12 then a.limits.code else a.limits.refs;
    }
