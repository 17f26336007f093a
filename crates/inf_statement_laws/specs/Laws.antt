-- The happenings of a whole statement: they leave the statements around it as they were, and lay it by its nesting.
use Rattle.std.specs.Prelude.{◌≡◌, ℕ, Bool, true, false, List, [], ◌∷◌, length, Some}
use Rattle.inf_settings.specs.Bounds.{Limits}
use Rattle.inf_scanner.specs.{declared.tokens.Mark.Mark, declared.tokens.Place.Place}
use Rattle.inf_machine.specs.{Grammar.IsOneOf, Machine.events_of, Machine.taken, declared.symbols.Symbol.Symbol}
use Rattle.inf_syntax.specs.{Atoms.mark_atom, declared.actions.Action.Action}
use Rattle.inf_syntax.specs.declared.parts.names.TheConstants as Part
use Part.{DIRECTIVE, PIECE, STATEMENT}
use Rattle.inf_grammar.specs.Language.{grammar, known}
use Rattle.inf_unit.specs.{Messages.FileNames, Tokens.SourceToken}
use Rattle.inf_compilation.specs.{Actions.Compilation, Actions.begun_at, Actions.took, Context.Context, Nesting.closed_ahead}
use Rattle.inf_constructs.specs.{Constructs.depth, declared.constructs.Construct.Construct}
use Rattle.inf_reader.specs.Acting.{act, all_acted}
use Rattle.inf_statement_laws.specs.Happenings.{Acts, AreOf, Between, Happening, IsRead, bodies, rests}
use Rattle.inf_statement_laws.specs.Nested.{Nested, happenings, rest_of}
use Rattle.inf_statement_laws.specs.Laid.{laid, next_comes, passed, run, with_kind_in, with_step_in}
use Rattle.inf_statement_laws.specs.Readings.{Routine, Seen, all_fit, all_happenings, all_taken, body_laid, directive_between, left_behind}
use Rattle.inf_statement_laws.specs.Readings.{plainly_at, routine_happenings, routine_laid, token_happenings}

-- A token that fits has the effect of its happenings, with those behind it, one by one, from where it has come up to where
-- the next one comes. They are the happenings of its events. And tokens that the machine takes, one after the other, are a
-- text where no symbol is left behind them.
pub record TokensHappen (limits : Limits) : Type 0 where
  pub runs : (context : Context) (t : SourceToken) (m : Between) (actions : List Action) (w : Compilation)
      → next_comes (passed m (took context t (all_acted limits context t.place actions w)))
      ≡ run limits context (token_happenings t m actions) (next_comes w)
  pub are : (t : SourceToken) (m : Between) (actions : List Action) (atom : ℕ)
      → AreOf (events_of actions atom) (token_happenings t m actions)
  pub all_are : (seen : List Seen) (symbol : Symbol Action) → all_fit seen (symbol ∷ []) ≡ true → left_behind seen (symbol ∷ []) ≡ []
      → IsRead symbol (all_happenings seen (symbol ∷ []))
  pub directives : (files : FileNames) (place : Place) (w : Compilation) →
      begun_at limits files place w ≡ passed (directive_between limits files place) w

-- Tells whether the statements that are open are those that were open before, and none is closed ahead.
pub record StaysOpen (w v : Compilation) : Type 0 where
  pub same : v.constructs ≡ w.constructs
  pub none_ahead : v.closed ≡ 0

abbrev pub LeavesOpen : Limits → Context → List Happening → Type 0
LeavesOpen limits context hs = (w : Compilation) → w.closed ≡ 0 → StaysOpen w (run limits context hs w)

-- The statements around a statement stay as they are, whatever it holds and whatever faults it has.
pub record StatementsLeaveWhatIsOpen (limits : Limits) : Type 0 where
  pub of_statements : (context : Context) (hs : List Happening) → IsRead STATEMENT hs → LeavesOpen limits context hs
  pub of_rests : (context : Context) (rest : Symbol Action) (hs : List Happening) → IsOneOf rest rests → IsRead rest hs
      → LeavesOpen limits context hs

-- Tells whether happenings are those of a nested statement, and lay it as a whole.
pub record IsWhole (limits : Limits) {b : Bool} (context : Context) (s : Nested b) (hs : List Happening) : Type 0 where
  pub same : happenings s ≡ hs
  pub lays : (w : Compilation) → w.closed ≡ 0 → run limits context hs w ≡ laid limits context s w

-- Each statement is nested and laid as a whole. One that holds others is one of its own word.
pub record StatementsAreLaidWhole (limits : Limits) : Type 0 where
  pub of_statements : (context : Context) (hs : List Happening) → IsRead STATEMENT hs → (s : Nested false) × IsWhole limits context
      s hs
  pub of_rests : (context : Context) (rest : Symbol Action) (hs : List Happening) → IsOneOf rest rests → IsRead rest hs
      → (s : Nested false) × (rest_of s ≡ Some rest) × IsWhole limits context s hs

-- The text of a routine, with its own cases, is nested and laid as a whole. Where no statement is open before it, none is
-- open behind it.
abbrev pub EndsOpen : Limits → Context → List Happening → Type 0
EndsOpen limits context hs =
    (w : Compilation) → w.closed ≡ 0 → depth w.constructs ≡ 0 → (depth (run limits context hs w).constructs ≡ 0) ×
    ((run limits context hs w).closed ≡ 0)

pub record RoutinesAreLaidWhole (limits : Limits) : Type 0 where
  pub whole : (context : Context) (body : Symbol Action) (hs : List Happening) → IsOneOf body bodies → IsRead body hs
      → (s : Nested true) × IsWhole limits context s hs
  pub ends : (context : Context) (body : Symbol Action) (hs : List Happening) → IsOneOf body bodies → IsRead body hs →
      EndsOpen limits context hs

-- Tells whether tokens are those of a routine, and lay it as a whole, also with conditional directives among them, which
-- close statements ahead.
pub record AreRoutine (limits : Limits) (r : Routine) (seen : List Seen) : Type 0 where
  pub same : routine_happenings r ≡ all_happenings seen (DIRECTIVE ∷ [])
  pub lay : (context : Context) (w : Compilation) → w.closed ≡ 0
      → next_comes (all_taken limits context seen (DIRECTIVE ∷ []) w) ≡ routine_laid limits context r (next_comes w)

-- A routine is read, from its bracket on, by tokens that fit up to where no symbol is left: its header, its statements, and
-- its end, before which no statement is open where none was before the header.
pub record RoutinesAreReadWhole (limits : Limits) : Type 0 where
  pub are : (bracket : Seen) (seen : List Seen) → bracket.atom ≡ mark_atom Mark.OpenBracket
      → all_fit (bracket ∷ seen) (DIRECTIVE ∷ []) ≡ true → left_behind (bracket ∷ seen) (DIRECTIVE ∷ []) ≡ []
      → (r : Routine) × AreRoutine limits r (bracket ∷ seen)
  pub begin : taken grammar known (mark_atom Mark.OpenBracket) (PIECE ∷ [])
      ≡ taken grammar known (mark_atom Mark.OpenBracket) (DIRECTIVE ∷ [])
  pub end : (context : Context) (r : Routine) (w : Compilation) → w.closed ≡ 0 → w.constructs ≡ []
      → depth (body_laid limits context r w).constructs ≡ 0

-- the happenings of statements that end one behind the other, at the places of a list
abbrev pub endings : List Place → List Happening
endings [] = []
endings (place ∷ places) = Acts (plainly_at place) Action.Close ∷ endings places

-- A conditional directive closes ahead the statements that end next, whatever the next token is. Its effect is as if behind
-- their ends, and a second one closes no more.
pub record ClosingAheadIsClosing (limits : Limits) : Type 0 where
  pub behind : (context : Context) (places : List Place) (m : Between) (w : Compilation) → w.closed ≡ 0
      → run limits context (endings places) (passed m (closed_ahead limits (length places) w))
      ≡ passed m (run limits context (endings places) w)
  pub again : (count : ℕ) (m : Between) (w : Compilation) → w.closed ≡ 0
      → closed_ahead limits count (passed m (closed_ahead limits count w)) ≡ passed m (closed_ahead limits count w)

-- The unit of a loop over objects, of a step or of a case leaves the innermost statement with its labels, and all others as
-- they are.
pub record UnitsKeepLabels (limits : Limits) : Type 0 where
  pub of_loops : (context : Context) (place : Place) (c : Construct) (around : List Construct) (w : Compilation) → w.constructs ≡ c ∷ around
      → let v = act limits context place Action.EndObjectloop w in v.constructs ≡ with_kind_in v.constructs c ∷ around
  pub of_steps : (context : Context) (place : Place) (c : Construct) (around : List Construct) (w : Compilation) → w.constructs ≡ c ∷ around
      → let v = act limits context place Action.EndForStep w in v.constructs ≡ with_step_in v.constructs c ∷ around
  pub of_cases : (context : Context) (place : Place) (c : Construct) (around : List Construct) (w : Compilation) → w.constructs ≡ c ∷ around
      → let v = act limits context place Action.EndCase w in v.constructs ≡ with_kind_in v.constructs c ∷ around
