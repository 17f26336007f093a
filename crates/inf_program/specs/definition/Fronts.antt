-- The front of a piece: tokens of a file, as conditionals hand them on, up to some place within the piece or up to its end. The events of
-- the text that the tokens are or begin say what they do: each action acts before the next token, and each token is taken. Where a
-- conditional directive ends, it closes ahead the statements that are over, whatever the next token is.
use Rattle.std.specs.Prelude.{◌≡◌, ℕ, zero, suc, List, [], ◌∷◌, ◌++◌, ◌&&◌, Bool, true, false}
use Rattle.inf_settings.specs.Bounds.{Limits}
use Rattle.inf_machine.specs.Grammar.{Did, Event, Leads, Took, action, here, row, token}
use Rattle.inf_machine.specs.declared.symbols.Symbol.{Symbol}
use Rattle.inf_syntax.specs.declared.actions.Action.{Action}
use Rattle.inf_grammar.specs.{Language.grammar, Routines.closings}
use Rattle.inf_unit.specs.Tokens.{SourceToken, atom_of, is_end}
use Rattle.inf_compilation.specs.{Context.Context, Nesting.closed_ahead}
use Rattle.inf_compilation.specs.Actions.{Compilation, piece_begun as work_begun, took as work_took}
use Rattle.inf_reader.specs.{Acting.all_acted, Handing.is_empty, Reading.piece_rule}
use Rattle.inf_session.specs.Choices.{Choices}
use Rattle.inf_laws.specs.KeptTokens.{Kept, Unfit}
use Rattle.inf_statement_laws.specs.{Happenings.Between, Laid.passed}
use Rattle.inf_program.specs.definition.States.{AsksNothing, State, context_of}
use Rattle.inf_program.specs.definition.Steps.{AllKept, Ends, Passes, Reads, Step}
use Rattle.inf_program.specs.definition.NextToken.{Position, at_front, behind_at, steps_at, within}

-- Definitions of events of a text

-- the actions before the next token
abbrev pub actions_first : List (Event Action) → List Action
actions_first [] = []
actions_first (Did a ∷ events) = a ∷ actions_first events
actions_first (Took atom ∷ events) = []

-- the events behind the next token
abbrev pub events_behind : List (Event Action) → List (Event Action)
events_behind [] = []
events_behind (Did a ∷ events) = events_behind events
events_behind (Took atom ∷ events) = events

abbrev pub are_over : List (Event Action) → Bool
are_over [] = true
are_over (e ∷ events) = false

-- Tells whether a piece is whole, by the events that are still to come and the symbols that are left behind them.
abbrev pub is_whole : List (Event Action) → List (Symbol Action) → Bool
is_whole events left = are_over events && is_empty left

-- Definitions of statements that are over

-- For each token of a text, the number of statements that hold others and are over behind it, whatever the next token is: the symbols
-- behind it begin with the ends of these.
abbrev pub ends_in : {symbols : List (Symbol Action)} {atoms : List ℕ} {events : List (Event Action)} {left : List (Symbol Action)}
    → Leads grammar symbols atoms events left → List ℕ
ends_in here = []
ends_in (token {symbols} is_in leads) = closings symbols ∷ ends_in leads
ends_in (action leads) = ends_in leads
ends_in (row is_row free leads) = ends_in leads

-- the number behind the next token
abbrev pub first_ends : List ℕ → ℕ
first_ends [] = 0
first_ends (count ∷ counts) = count

-- the numbers behind those that come then
abbrev pub later_ends : List ℕ → List ℕ
later_ends [] = []
later_ends (count ∷ counts) = counts

-- The rest of a text that is still to come: its events; and for each of its tokens the number of statements that are over behind it.
pub record Course : Type 0 where
  pub events : List (Event Action)
  pub ends : List ℕ

-- The tokens lead from the symbols, one behind the other, with this course to the symbols that are left.
pub record Derives (symbols : List (Symbol Action)) (atoms : List ℕ) (course : Course) (left : List (Symbol Action)) : Type 0 where
  pub leads : Leads grammar symbols atoms course.events left
  pub are_ends : ends_in leads ≡ course.ends

-- Definitions of the effect of tokens

-- The kept tokens of a piece so far, the number of statements that are over behind the last one, what is still to come of its text, and
-- the compilation.
pub record Progress : Type 0 where
  pub tokens : List SourceToken
  pub over : ℕ
  pub course : Course
  pub work : Compilation

-- A token is taken, behind the actions before it.
abbrev pub taken_by : Limits → Context → SourceToken → Progress → Progress
taken_by limits context t p = record {
  tokens = p.tokens ++ t ∷ [];
  over = first_ends p.course.ends;
  course = record { events = events_behind p.course.events; ends = later_ends p.course.ends };
  work = work_took context t (all_acted limits context t.place (actions_first p.course.events) p.work);
}

-- Kept tokens are taken, one behind the other. A conditional directive has its effect between them, and where it ends, it closes ahead the
-- statements that are over.
abbrev pub done_by : Limits → Context → List Step → Progress → Progress
done_by limits context [] p = p
done_by limits context (Reads (Kept t) ∷ steps) p = done_by limits context steps (taken_by limits context t p)
done_by limits context (Reads (Unfit t) ∷ steps) p = done_by limits context steps p
done_by limits context (Passes m ∷ steps) p = done_by limits context steps (record p { work = passed m p.work })
done_by limits context (Ends m ∷ steps) p =
    done_by limits context steps (record p { work = passed m (closed_ahead limits p.over p.work) })

abbrev pub kept_atoms : List Step → List ℕ
kept_atoms [] = []
kept_atoms (Reads (Kept t) ∷ steps) = atom_of t ∷ kept_atoms steps
kept_atoms (Reads (Unfit t) ∷ steps) = kept_atoms steps
kept_atoms (Passes m ∷ steps) = kept_atoms steps
kept_atoms (Ends m ∷ steps) = kept_atoms steps

-- Definitions of tokens of a file

-- The state within a piece: the files that are open, with the conditionals and the compilation; the kept tokens of the piece so far; the
-- number of statements that are over behind the last one; and what is still to come of its text.
pub record PieceState : Type 0 where
  pub state : State
  pub tokens : List SourceToken
  pub over : ℕ
  pub course : Course

abbrev pub progress_of : PieceState → Progress
progress_of m = record { tokens = m.tokens; over = m.over; course = m.course; work = m.state.work }

abbrev pub piece_behind : Choices → Position → State → Progress → PieceState
piece_behind o at s p = record { state = behind_at o at p.work s; tokens = p.tokens; over = p.over; course = p.course }

-- A piece begins, with this course.
abbrev pub fresh_progress : Course → Compilation → Progress
fresh_progress course w = record { tokens = []; over = 0; course = course; work = work_begun w }

-- the state behind the first token of the file
abbrev pub begun_piece : Limits → Choices → Course → State → PieceState
begun_piece limits o course s =
    piece_behind o at_front s (done_by limits (context_of o s) (steps_at limits o at_front s) (fresh_progress course s.work))

-- the state behind the next token of the file
abbrev pub moved : Limits → Choices → PieceState → PieceState
moved limits o m =
    piece_behind o within m.state (done_by limits (context_of o m.state) (steps_at limits o within m.state) (progress_of m))

abbrev pub walked : Limits → Choices → ℕ → PieceState → PieceState
walked limits o zero m = m
walked limits o (suc n) m = walked limits o n (moved limits o m)

-- A piece of which some symbols are left is open: no fatal message came, no directive asks for anything, and more is to come.
pub record IsOpen (left : List (Symbol Action)) (m : PieceState) : Type 0 where
  pub is_going : m.state.is_over ≡ false
  pub is_not_over : m.state.work.report.counts.is_over ≡ false
  pub asks_nothing : AsksNothing m.state
  pub has_more : is_whole m.course.events left ≡ false

-- The piece goes on: what is handed on for the next token of the file is kept.
pub record GoesOn (limits : Limits) (o : Choices) (left : List (Symbol Action)) (m : PieceState) : Type 0 where
  pub is_open : IsOpen left m
  pub are_kept : AllKept (steps_at limits o within m.state)

abbrev pub AllGoOn : Limits → Choices → List (Symbol Action) → ℕ → PieceState → Type 0
AllGoOn limits o left zero m = Unit {0}
AllGoOn limits o left (suc n) m = GoesOn limits o left m × AllGoOn limits o left n (moved limits o m)

-- the kept tokens of `n` tokens of the file, as the grammar sees them, and others behind them
abbrev pub atoms_from : Limits → Choices → ℕ → PieceState → List ℕ → List ℕ
atoms_from limits o zero m further = further
atoms_from limits o (suc n) m further =
    kept_atoms (steps_at limits o within m.state) ++ atoms_from limits o n (moved limits o m) further

-- The first token of the file hands on a kept token, which is not the end of the file.
pub record FirstKept (limits : Limits) (o : Choices) (s : State) : Type 0 where
  pub effect : Between
  pub token : SourceToken
  pub rest : List Step
  pub steps : steps_at limits o at_front s ≡ Passes effect ∷ Reads (Kept token) ∷ rest
  pub is_no_end : is_end token.kind ≡ false

-- The front of a piece: `more` tokens of the file behind the first one. The tokens that are handed on are kept, and with the `further` ones
-- behind them they begin a text of a piece, with this course, of which these symbols are left.
pub record Front (limits : Limits) (o : Choices) (s : State) : Type 0 where
  pub more : ℕ
  pub course : Course
  pub further : List ℕ
  pub left : List (Symbol Action)
  pub begins : FirstKept limits o s
  pub are_kept : AllKept (steps_at limits o at_front s)
  pub go_on : AllGoOn limits o left more (begun_piece limits o course s)
  pub derives : Derives (Symbol.Rule piece_rule ∷ [])
      (kept_atoms (steps_at limits o at_front s) ++ atoms_from limits o more (begun_piece limits o course s) further) course left

-- the state behind a front
abbrev pub reached : {limits : Limits} {o : Choices} {s : State} → Front limits o s → PieceState
reached {limits} {o} {s} f = walked limits o f.more (begun_piece limits o f.course s)
