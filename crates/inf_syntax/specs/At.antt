-- The entry of a list at a place.
use Rattle.std.specs.Prelude.{ℕ, List, [], Bool, false, get_or}
use Rattle.inf_machine.specs.Grammar.{Row}
use Rattle.inf_syntax.specs.declared.actions.Action.{Action}

abbrev pub number_at : List ℕ → ℕ → ℕ
number_at xs at = get_or xs at 0

abbrev pub rows_at : List (List (Row Action)) → ℕ → List (Row Action)
rows_at xs at = get_or xs at []

abbrev pub test_at : List Bool → ℕ → Bool
test_at xs at = get_or xs at false
