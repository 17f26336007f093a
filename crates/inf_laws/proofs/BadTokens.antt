-- A routine's bracket is open as the tokens before say.
use Rattle.std.proofs.Common.{◌≡◌, ℕ, List, [], ◌∷◌}
use Rattle.inf_machine.specs.{Machine.read, declared.symbols.Symbol.Symbol}
use Rattle.inf_grammar.specs.{Brackets.is_bracket_open, Language.grammar, Language.known, Sources.is_inside}
use Rattle.inf_grammar.proofs.OpenRoutines.{open_routines_are_bracketed}
use Rattle.inf_reader.specs.{Pieces.BeginsPiece, Reading.piece_rule}

pub bracketed : (seen : List ℕ) → BeginsPiece seen →
    is_inside (read grammar known (Symbol.Rule piece_rule ∷ []) seen) ≡ is_bracket_open seen
bracketed seen b = open_routines_are_bracketed seen b.begins
