-- The open routine of a piece, by its tokens so far: a routine is open where the last bracket among them is an opening one, and the piece
-- is no array's. An array's entries may be in brackets too; all others are those of routines.
-- Designer's Manual, fourth edition, sections 1.3, 2.4 and 3.5.
use Rattle.std.specs.Prelude.{◌≡◌, ℕ, List, [], ◌∷◌, codes, Bool, true, false, not, ◌&&◌, ◌||◌, ◌==◌, if◌then◌else◌, Some}
use Rattle.inf_machine.specs.{Grammar.Begins, Grammar.has, Machine.Read, Machine.read, declared.symbols.Symbol.Symbol}
use Rattle.inf_syntax.specs.{Atoms.mark_atom, Atoms.of_word, declared.actions.Action.Action}
use Rattle.inf_scanner.specs.declared.tokens.Mark.{Mark}
use Rattle.inf_grammar.specs.{Language.grammar, Language.known, Routines.is_in_routine, Sources.in_routine_behind, Sources.piece_rule}

-- Tells whether a bracket is open behind `atom`, where `is_open` says whether one was open before it.
abbrev pub open_behind : Bool → ℕ → Bool
open_behind is_open atom =
    if atom == mark_atom Mark.OpenBracket then true else if atom == mark_atom Mark.CloseBracket then false else is_open

-- Tells whether a bracket is open behind `atoms`, where `is_open` says whether one was open before them.
abbrev pub open_behind_all : Bool → List ℕ → Bool
open_behind_all is_open [] = is_open
open_behind_all is_open (atom ∷ atoms) = open_behind_all (open_behind is_open atom) atoms

-- Tells whether `atoms` begin with the word of an array.
abbrev pub begin_array : List ℕ → Bool
begin_array [] = false
begin_array (atom ∷ atoms) = has (of_word (codes "array")) atom

-- Tells whether a piece that begins with these atoms is an array's: with the word, which may come behind a hash.
abbrev pub is_array : List ℕ → Bool
is_array [] = false
is_array (atom ∷ atoms) = begin_array (atom ∷ atoms) || ((atom == mark_atom Mark.Hash) && begin_array atoms)

-- Tells whether a routine's bracket is open behind the tokens of a piece.
abbrev pub is_bracket_open : List ℕ → Bool
is_bracket_open front = not (is_array front) && open_behind_all false front

-- Behind tokens that begin a piece a routine is open exactly where its bracket is.
abbrev pub OpenRoutinesAreBracketed : Type 0
OpenRoutinesAreBracketed =
    (front : List ℕ) → Begins grammar (Symbol.Rule piece_rule ∷ []) front → in_routine_behind front ≡ is_bracket_open front

-- A routine is left to be read behind tokens that were taken exactly where its bracket is open.
abbrev pub LeftRoutinesAreBracketed : Type 0
LeftRoutinesAreBracketed =
    (front : List ℕ) (r : Read Action) → read grammar known (Symbol.Rule piece_rule ∷ []) front ≡ Some r → is_in_routine r.left ≡
    is_bracket_open front
