-- A whole piece that is a directive of one unit does what the tree of its tokens does.
use Rattle.std.specs.Prelude.{◌≡◌, ◌<◌, ℕ, zero, suc, List, [], ◌∷◌, ◌++◌, length, true, None}
use Rattle.inf_settings.specs.Bounds.{Limits}
use Rattle.inf_unit.specs.Units.{no_unit}
use Rattle.inf_compilation.specs.Actions.{piece_begun}
use Rattle.inf_session.specs.Choices.{Choices}
use Rattle.inf_statement_laws.specs.{Laid.passed, Readings.Seen, Readings.behind_token}
use Rattle.inf_language.specs.{Constants.piece_done, Texts.atoms_of}
use Rattle.inf_trees.specs.{Directives.Directive, Directives.begins_directive, Directives.directive_done, Trees.AreWritten, Trees.all_seen}
use Rattle.inf_program.specs.{definition.NextToken.steps_at, definition.NextToken.within, definition.States.State}
use Rattle.inf_program.specs.{definition.States.context_of, definition.Steps.Step}
use Rattle.inf_program.specs.definition.Fronts.{Front, PieceState, begun_piece, moved, reached}
use Rattle.inf_turn_laws.specs.Acted.{seen_in}

-- the steps of `n` tokens of the file within a piece
abbrev pub steps_from : Limits → Choices → ℕ → PieceState → List Step
steps_from limits o zero m = []
steps_from limits o (suc n) m = steps_at limits o within m.state ++ steps_from limits o n (moved limits o m)

-- the kept tokens of a front, each with the effect behind it, and the effect from where the first conditional directive ends there
abbrev pub taken_seen : {limits : Limits} {o : Choices} {s : State} → Front limits o s → List Seen
taken_seen {limits} {o} {s} f =
    seen_in f.begins.token (f.begins.rest ++ steps_from limits o f.more (begun_piece limits o f.course s))

-- a token with all effects behind it, where no statement is over
abbrev pub merged : Seen → Seen
merged s = record s { behind = behind_token s.directive 0 s.behind; directive = None }

abbrev pub all_merged : List Seen → List Seen
all_merged [] = []
all_merged (s ∷ seen) = merged s ∷ all_merged seen

abbrev pub front_seen : {limits : Limits} {o : Choices} {s : State} → Front limits o s → List Seen
front_seen f = all_merged (taken_seen f)

-- The tokens of a front are a directive as a tree, whose expressions are those of their tokens by the levels of operators, and the state
-- behind the front has the effect of the directive.
pub record DoesDirective (limits : Limits) (o : Choices) (s : State) (f : Front limits o s) : Type 0 where
  pub tree : Directive
  pub same : all_seen tree.unit ++ tree.semicolon ∷ [] ≡ front_seen f
  pub written : AreWritten no_unit tree.unit
  pub does : piece_done (reached f).state.work
      ≡ piece_done (directive_done limits (context_of o s) tree (piece_begun (passed f.begins.effect s.work)))

-- Each front of a whole piece, whose tokens begin as such a directive does, is one, wherever conditional directives end between them. There
-- are few enough of them for their orders to differ.
abbrev pub PiecesDoTheirDirectives : Limits → Type 0
PiecesDoTheirDirectives limits =
    (o : Choices) (s : State) (f : Front limits o s) → f.further ≡ [] → f.left ≡ []
    → begins_directive (atoms_of (front_seen f)) ≡ true → length (front_seen f) < 4294967295 → DoesDirective limits o s f
