-- The pieces of a source, and the tokens that are skipped behind a bad one.
use Rattle.std.specs.Prelude.{ℕ, ◌+◌, List, [], ◌∷◌, Bool, false, Option, Some, None, ◌==◌, if◌then◌else◌}
use Rattle.inf_machine.specs.{Machine.Read, Machine.read, Pieces.ArePieces, Pieces.Piece, declared.symbols.Symbol.Symbol}
use Rattle.inf_syntax.specs.{Atoms.mark_atom, declared.actions.Action.Action}
use Rattle.inf_scanner.specs.declared.tokens.Mark.{Mark}
use Rattle.inf_grammar.specs.{Language.grammar, Language.known, Routines.is_in_routine}

-- the number of the rule of pieces
abbrev pub piece_rule : ℕ
piece_rule = 1

abbrev pub is_inside : Option (Read Action) → Bool
is_inside None = false
is_inside (Some r) = is_in_routine r.left

-- Tells whether a routine is open behind tokens that begin a piece.
abbrev pub in_routine_behind : List ℕ → Bool
in_routine_behind front = is_inside (read grammar known (Symbol.Rule piece_rule ∷ []) front)

-- the number of tokens up to the first semicolon, which is counted in, or of all
abbrev pub through_semicolon : List ℕ → ℕ
through_semicolon [] = 0
through_semicolon (atom ∷ atoms) = if atom == mark_atom Mark.Semicolon then 1 else 1 + through_semicolon atoms

-- the number of tokens up to the first semicolon behind a bracket that ends a routine, or of all
abbrev pub through_bracket : List ℕ → ℕ
through_bracket [] = 0
through_bracket (atom ∷ atoms) = if atom == mark_atom Mark.CloseBracket then 1 + through_semicolon atoms else 1 + through_bracket atoms

-- The number of tokens that are skipped behind a bad one: up to the next semicolon, and in a routine up to the semicolon behind the next
-- bracket that ends one. The bad token may be the semicolon or the bracket. With neither, all are skipped.
abbrev pub skipped_behind : List ℕ → ℕ → List ℕ → ℕ
skipped_behind front bad rest =
    if in_routine_behind front
    then (if bad == mark_atom Mark.CloseBracket then through_semicolon rest else through_bracket rest)
    else (if bad == mark_atom Mark.Semicolon then 0 else through_semicolon rest)

-- Every source has its pieces.
abbrev pub SourcesHavePieces : Type 0
SourcesHavePieces = (atoms : List ℕ) → (pieces : List Piece) × ArePieces grammar piece_rule skipped_behind pieces atoms
