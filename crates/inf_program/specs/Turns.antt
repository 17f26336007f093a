-- The steps of turns: the tokens that conditionals hand on, and the effects of conditional directives between them. Within a piece they are
-- the tokens as the machine of the grammar takes them, each with the effect behind it.
use Rattle.std.specs.Prelude.{◌≡◌, ℕ, zero, suc, List, [], ◌∷◌, ◌++◌, true, false, Option, Some, None}
use Rattle.inf_settings.specs.Bounds.{Limits}
use Rattle.inf_devices.specs.Files.{Sources}
use Rattle.inf_scanner.specs.declared.tokens.Place.{Place}
use Rattle.inf_machine.specs.{Machine.fits, declared.symbols.Symbol.Symbol}
use Rattle.inf_grammar.specs.{Language.grammar, Language.known, Routines.closings}
use Rattle.inf_unit.specs.{Directives.Nothing, Messages.FileNames, Tokens.SourceToken, Tokens.atom_of, Tokens.is_end}
use Rattle.inf_compilation.specs.{Actions.Compilation, Actions.piece_begun as work_begun, Context.Context, Nesting.closed_ahead}
use Rattle.inf_conditionals.specs.{Judging.judged, Said.Said, declared.filtered.Filtered.Filtered}
use Rattle.inf_reader.specs.{Handing.is_empty, Handing.site_of, Handing.skips, Handing.unfit_in, declared.recovery.Recovery.Recovery}
use Rattle.inf_reader.specs.Reading.{Reading, ReaderState, bad, between, is_mode_ended, piece_begun, piece_rule, step}
use Rattle.inf_session.specs.Choices.{Choices}
use Rattle.inf_session.specs.Session.{State, context_of, is_resting, stand_of, stepped, token_of}
use Rattle.inf_laws.specs.KeptTokens.{Given, Kept, Unfit, given_sign, given_token, token_in}
use Rattle.inf_statement_laws.specs.{Happenings.Between, Laid.passed}
use Rattle.inf_statement_laws.specs.Readings.{Seen, all_taken, directed, directive_between, nothing_between, then_between}
use Rattle.inf_program.specs.definition.Steps.{Ends, Passes, Reads, Step, lone_between, said_between}
use Rattle.inf_program.specs.Writing.{silent_turn, silent_turned}

-- the reading behind a token that is handed on
abbrev pub given_to : Limits → Context → Given → ReaderState → ReaderState
given_to limits context (Kept t) s = step limits context t s.reading s.work
given_to limits context (Unfit t) s = unfit_in limits s.reading.mode context t s

abbrev pub step_by : Limits → Context → Step → ReaderState → ReaderState
step_by limits context (Reads g) s = given_to limits context g s
step_by limits context (Passes m) s = record s { work = passed m s.work }
step_by limits context (Ends m) s = record s { work = passed m (closed_ahead limits (closings s.reading.stack) s.work) }

abbrev pub steps_by : Limits → Context → List Step → ReaderState → ReaderState
steps_by limits context [] s = s
steps_by limits context (x ∷ steps) s = steps_by limits context steps (step_by limits context x s)

-- Definitions of the steps of a turn

abbrev pub given_steps : List Given → List Step
given_steps [] = []
given_steps (g ∷ given) = Reads g ∷ given_steps given

abbrev pub end_steps : Limits → FileNames → Option Place → List Step
end_steps limits files None = []
end_steps limits files (Some place) = Ends (directive_between limits files place) ∷ []

-- the steps behind the tokens that are handed on
abbrev pub steps_behind : Limits → FileNames → Filtered → List Step
steps_behind limits files j = Passes (lone_between files j.unmatched) ∷ end_steps limits files j.ended

-- the steps of a token, by its judgement
abbrev pub judged_steps : Limits → Context → SourceToken → Option Said → Filtered → List Step
judged_steps limits context t said j =
    Passes (said_between limits context.names said)
    ∷ (given_steps (given_sign j.sign) ++ (given_steps (given_token j.token t) ++ steps_behind limits context.names j))

-- the judgement of the token that comes, and the message about its condition
abbrev pub judgement : Choices → State → Filtered
judgement o s = (judged (site_of o.settings s.reading) s.work.output (token_of s) s.conditions).judged

abbrev pub judgement_said : Choices → State → Option Said
judgement_said o s = (judged (site_of o.settings s.reading) s.work.output (token_of s) s.conditions).now.said

abbrev pub steps_of : Limits → Choices → State → List Step
steps_of limits o s = judged_steps limits (context_of o s) (token_of s) (judgement_said o s) (judgement o s)

-- Definitions of turns one behind the other

-- Behind a turn nothing else happens: no fatal message came, no file ends, no directive asks for anything, and no piece has ended.
pub record IsQuiet (s : State) : Type 0 where
  pub is_not_over : s.work.report.counts.is_over ≡ false
  pub has_more : is_mode_ended s.reading.mode ≡ false
  pub asks_nothing : s.work.asked ≡ Nothing
  pub is_inside : is_resting s ≡ false

-- behind each of `n` turns nothing else happens
abbrev pub AreQuiet : Limits → Sources → Choices → ℕ → State → Type 0
AreQuiet limits sources o zero s = Unit {0}
AreQuiet limits sources o (suc n) s = IsQuiet (stepped limits o s) × AreQuiet limits sources o n (silent_turn limits sources o s)

-- the steps of `n` turns and of one more
abbrev pub all_steps : Limits → Sources → Choices → ℕ → State → List Step
all_steps limits sources o zero s = steps_of limits o s
all_steps limits sources o (suc n) s = steps_of limits o s ++ all_steps limits sources o n (silent_turn limits sources o s)

-- Definitions of steps within a piece

-- A token fits in the piece at hand.
pub record IsFit (t : SourceToken) (r : Reading) : Type 0 where
  pub reads : r.mode ≡ Recovery.Reads
  pub is_inside : is_empty r.stack ≡ false
  pub is_fit : fits grammar known (atom_of t) r.stack ≡ true

-- A token does not fit in the piece at hand.
pub record IsUnfit (t : SourceToken) (r : Reading) : Type 0 where
  pub reads : r.mode ≡ Recovery.Reads
  pub is_inside : is_empty r.stack ≡ false
  pub is_unfit : fits grammar known (atom_of t) r.stack ≡ false

-- all tokens are kept, and fit one behind the other
abbrev pub AllFit : Limits → Context → List Step → ReaderState → Type 0
AllFit limits context [] s = Unit {0}
AllFit limits context (Reads (Kept t) ∷ steps) s =
    IsFit t s.reading × AllFit limits context steps (step_by limits context (Reads (Kept t)) s)
AllFit limits context (Reads (Unfit t) ∷ steps) s = ⊥
AllFit limits context (Passes m ∷ steps) s = AllFit limits context steps (step_by limits context (Passes m) s)
AllFit limits context (Ends m ∷ steps) s = AllFit limits context steps (step_by limits context (Ends m) s)

-- Tokens, and the effect before the first: up to where a conditional directive ends, and from there on.
pub record Grouped : Type 0 where
  pub behind : Between
  pub directive : Option Between
  pub seen : List Seen

-- the effect from where a conditional directive ends, with the effect behind it
abbrev pub directive_with : Between → Between → Option Between → Between
directive_with m behind None = then_between m behind
directive_with m behind (Some d) = then_between m (then_between behind d)

abbrev pub before : Step → Grouped → Grouped
before (Reads given) g = record {
  behind = nothing_between;
  directive = None;
  seen =
      record { token = token_in given; atom = atom_of (token_in given); behind = g.behind; directive = g.directive } ∷ g.seen;
}
before (Passes m) g = record g { behind = then_between m g.behind }
before (Ends m) g = record g { behind = nothing_between; directive = Some (directive_with m g.behind g.directive) }

abbrev pub grouped : List Step → Grouped
grouped [] = record { behind = nothing_between; directive = None; seen = [] }
grouped (x ∷ steps) = before x (grouped steps)

-- the reading of a piece that begins with a token, at the token, behind the effect of conditional directives
abbrev pub piece_first : Between → Compilation → ReaderState
piece_first m w = record { reading = piece_begun (between Recovery.Reads); work = work_begun (passed m w) }

-- Turns behind which nothing else happens have the effect of their steps (`turns`). Of steps in a piece, tokens that fit are taken as the
-- machine of the grammar takes them, each with the effect behind it (`inside`). A token that does not fit is the bad one (`cut`), and one
-- that is passed over has no effect on the compilation (`skipped`). From where a piece begins, turns that only hand on tokens that fit
-- take these (`whole`).
pub record TurnsTakeTokens (limits : Limits) : Type 0 where
  pub turns : (sources : Sources) (o : Choices) (n : ℕ) (s : State) → AreQuiet limits sources o n s
      → stand_of (stepped limits o (silent_turned limits sources o n s))
      ≡ steps_by limits (context_of o s) (all_steps limits sources o n s) (stand_of s)
  pub inside : (context : Context) (steps : List Step) (s : ReaderState) → AllFit limits context steps s
      → let g = grouped steps in
      (steps_by limits context steps s).work
      ≡ all_taken limits context g.seen s.reading.stack (directed limits g.directive (closings s.reading.stack) (passed g.behind s.work))
  pub cut : (context : Context) (t : SourceToken) (s : ReaderState) → IsUnfit t s.reading
      → step_by limits context (Reads (Kept t)) s ≡ bad limits context t s.reading s.work
  pub skipped : (context : Context) (g : Given) (s : ReaderState) → skips s.reading.mode ≡ true
      → (step_by limits context (Reads g) s).work ≡ s.work
  pub whole : (sources : Sources) (o : Choices) (n : ℕ) (s : State) (m : Between) (t : SourceToken) (steps : List Step)
      → s.reading ≡ between Recovery.Reads → is_end t.kind ≡ false → AreQuiet limits sources o n s
      → all_steps limits sources o n s ≡ Passes m ∷ Reads (Kept t) ∷ steps
      → AllFit limits (context_of o s) (Reads (Kept t) ∷ steps) (piece_first m s.work)
      → (stepped limits o (silent_turned limits sources o n s)).work
      ≡ all_taken limits (context_of o s) (grouped (Reads (Kept t) ∷ steps)).seen (Symbol.Rule piece_rule ∷ [])
      (work_begun (passed m s.work))
