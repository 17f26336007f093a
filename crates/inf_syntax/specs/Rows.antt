-- Rows as the tables write them.
use Rattle.std.specs.Prelude.{ℕ, List}
use Rattle.inf_machine.specs.{Grammar.Row, declared.symbols.Symbol.Symbol}
use Rattle.inf_syntax.specs.{At.number_at, Classes.classes, declared.actions.Action.Action}

abbrev pub row : List (Symbol Action) → Row Action
row parts = record { parts = parts; unless = 0 }

-- a row that is not taken before a token of a class
abbrev pub row_unless : ℕ → List (Symbol Action) → Row Action
row_unless class parts = record { parts = parts; unless = number_at classes class }
