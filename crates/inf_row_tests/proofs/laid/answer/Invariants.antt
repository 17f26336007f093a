-- The limits are those that the way gives.
use Rattle.std.specs.Prelude.{nat_eq, if◌then◌else◌}
use Rattle.inf_settings.specs.Settings.{defaults, number_of, place_of}
use Rattle.inf_row_tests.proofs.laid.answer.Given as goal

abbrev pub ghosts-answer_under : goal.ghosts-answer_under
ghosts-answer_under a =
    record {
      most = λ s. if nat_eq (place_of s) 2 then a.most.names else if nat_eq (place_of s) 3 then a.most.code.labels
          else if nat_eq (place_of s) 12 then a.most.code.code
          else if nat_eq (place_of s) 14 then a.most.code.refs
          else number_of s defaults;
    }
