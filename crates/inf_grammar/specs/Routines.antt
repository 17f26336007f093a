-- The routine that is open in what is left to be read, and the compound statements that are over.
use Rattle.std.specs.Prelude.{ℕ, ◌+◌, List, [], ◌∷◌, Bool, true, false, ◌||◌}
use Rattle.inf_machine.specs.declared.symbols.Symbol.{Symbol}
use Rattle.inf_syntax.specs.declared.actions.Action.{Action}

abbrev pub ends_routine : Action → Bool
ends_routine Action.EndRoutine = true
ends_routine _ = false

-- Tells whether the end of a routine is still to come.
abbrev pub is_in_routine : List (Symbol Action) → Bool
is_in_routine [] = false
is_in_routine (Symbol.Token class ∷ symbols) = is_in_routine symbols
is_in_routine (Symbol.Act a ∷ symbols) = ends_routine a || is_in_routine symbols
is_in_routine (Symbol.Rule rule ∷ symbols) = is_in_routine symbols

-- The number of compound statements that are over, whatever the next token is: their ends come next.
abbrev pub closings : List (Symbol Action) → ℕ
closings ((Symbol.Act Action.Close) ∷ symbols) = 1 + closings symbols
closings _ = 0
