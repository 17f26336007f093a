-- A whole piece that is a routine does what the tree of its tokens does, wherever conditional directives end between them: where one ends
-- behind a token behind which statements are over, its effect comes behind the end of the outermost of these.
use Rattle.std.specs.Prelude.{◌≡◌, ℕ, zero, suc, ◌+◌, ◌-◌, ◌<◌, List, [], ◌∷◌, length, if◌then◌else◌, Option, None}
use Rattle.inf_settings.specs.Bounds.{Limits}
use Rattle.inf_scanner.specs.declared.tokens.Mark.{Mark}
use Rattle.inf_machine.specs.Grammar.{Did, Event, Took}
use Rattle.inf_syntax.specs.{Atoms.mark_atom, declared.actions.Action.Action}
use Rattle.inf_unit.specs.Tokens.{atom_of}
use Rattle.inf_compilation.specs.Actions.{piece_begun}
use Rattle.inf_session.specs.Choices.{Choices}
use Rattle.inf_statement_laws.specs.{Happenings.Between, Laid.next_comes, Laid.passed, Readings.Seen, Readings.behind_token}
use Rattle.inf_routine_trees.specs.Bodies.{TreeWritten, is_close}
use Rattle.inf_routine_trees.specs.Routines.{Routine, routine_done, routine_seen, routine_with}
use Rattle.inf_program.specs.definition.Fronts.{Front, first_ends, later_ends, reached}
use Rattle.inf_program.specs.definition.States.{State, context_of}
use Rattle.inf_turn_laws.specs.Directives.{taken_seen}

-- Tokens, each with all effects behind it but that of a conditional directive that ends where statements are over: by the numbers of these
-- statements, it comes behind them.
abbrev pub merged_at : ℕ → Seen → Seen
merged_at count s = record s { behind = behind_token s.directive count s.behind; directive = None }

abbrev pub merged_by : List ℕ → List Seen → List Seen
merged_by counts [] = []
merged_by counts (s ∷ seen) = merged_at (first_ends counts) s ∷ merged_by (later_ends counts) seen

-- the effect behind the next end, where `count` ends are still to come before it and with it
abbrev pub effect_now : Option Between → ℕ → Option Between
effect_now effect zero = None
effect_now effect (suc zero) = effect
effect_now effect (suc (suc count)) = None

-- The effects behind the ends of statements, in order, by the events of a text and the numbers of statements that are over behind its
-- tokens: where a conditional directive ends behind a token, its effect comes behind the last of these ends.
abbrev pub effects_by : Option Between → ℕ → List (Event Action) → List ℕ → List Seen → List (Option Between)
effects_by effect count [] counts seen = []
effects_by effect count (Did a ∷ events) counts seen =
    if is_close a then effect_now effect count ∷ effects_by effect (count - 1) events counts seen
    else effects_by effect count events counts seen
effects_by effect count (Took atom ∷ events) counts [] = []
effects_by effect count (Took atom ∷ events) counts (s ∷ seen) =
    effects_by s.directive (first_ends counts) events (later_ends counts) seen

-- the tokens of a front, and the effects behind its statements
abbrev pub routine_front : {limits : Limits} {o : Choices} {s : State} → Front limits o s → List Seen
routine_front f = merged_by f.course.ends (taken_seen f)

abbrev pub routine_effects : {limits : Limits} {o : Choices} {s : State} → Front limits o s → List (Option Between)
routine_effects f = effects_by None 0 f.course.events f.course.ends (taken_seen f)

-- The tokens of a front are a routine as a tree, and the state behind the front has the effect of the routine, with these effects behind its
-- statements.
pub record DoesRoutine (limits : Limits) (o : Choices) (s : State) (f : Front limits o s) : Type 0 where
  pub tree : Routine
  pub same : routine_seen tree ≡ routine_front f
  pub written : TreeWritten tree.body
  pub does : next_comes (reached f).state.work
      ≡ routine_done limits (context_of o s) (routine_with (routine_effects f) tree)
      (next_comes (piece_begun (passed f.begins.effect s.work)))

-- Each front of a whole piece that begins with a bracket is a routine. There are few enough of its tokens for their orders to differ.
abbrev pub PiecesDoTheirRoutines : Limits → Type 0
PiecesDoTheirRoutines limits =
    (o : Choices) (s : State) (f : Front limits o s) → f.further ≡ [] → f.left ≡ [] → atom_of f.begins.token ≡ mark_atom Mark.OpenBracket
    → length (routine_front f) + 1 < 4294967295 → DoesRoutine limits o s f
