-- The pieces of a source.
use Rattle.std.specs.Prelude.{◌≡◌, ℕ, List, [], ◌∷◌, take, false, Some}
use Rattle.inf_unit.specs.Tokens.{SourceToken, atom_of}
use Rattle.inf_report.specs.Messages.{Message}
use Rattle.inf_syntax.specs.declared.actions.Action.{Action}
use Rattle.inf_machine.specs.{Grammar.Begins, Grammar.Event, Grammar.IsText, Machine.fits, declared.symbols.Symbol.Symbol}
use Rattle.inf_grammar.specs.Language.{grammar, known}
use Rattle.inf_reader.specs.{Reading.Reading, Reading.piece_begun, Reading.piece_rule, Tests.fault_of}
use Rattle.inf_compilation.specs.Actions.{Compilation, piece_begun as work_begun}

-- Tokens with these atoms are a piece: a text of the grammar's rule for pieces.
pub record IsPiece (atoms : List ℕ) : Type 0 where
  pub events : List (Event Action)
  pub is_text : IsText grammar (Symbol.Rule piece_rule ∷ []) atoms events

-- Tokens with these atoms begin a piece, as far as they go.
pub record BeginsPiece (atoms : List ℕ) : Type 0 where
  pub begins : Begins grammar (Symbol.Rule piece_rule ∷ []) atoms

-- the piece that is at hand at a token: a new one where there was none
abbrev pub at_hand_by : List (Symbol Action) → Reading → Reading
at_hand_by [] r = piece_begun r
at_hand_by (_ ∷ _) r = r

abbrev pub at_hand : Reading → Reading
at_hand r = at_hand_by r.stack r

-- the compilation at the first token of a piece, or of the piece at hand: a new piece has no tokens
abbrev pub work_by : List (Symbol Action) → Compilation → Compilation
work_by [] w = work_begun w
work_by (_ ∷ _) w = w

-- A token that is faulty by itself fits nowhere.
abbrev pub FaultyTokensFitNothing : Type 0
FaultyTokensFitNothing =
    (t : SourceToken) (m : Message) (stack : List (Symbol Action)) → fault_of t ≡ Some m → fits grammar known (atom_of t) stack ≡ false

-- Each piece begins a piece.
abbrev pub PiecesBegin : Type 0
PiecesBegin = (seen : List ℕ) → IsPiece seen → BeginsPiece seen

abbrev pub FrontsBegin : Type 0
FrontsBegin = (seen : List ℕ) (n : ℕ) → BeginsPiece seen → BeginsPiece (take n seen)
