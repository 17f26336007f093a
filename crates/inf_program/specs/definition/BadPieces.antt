-- A bad piece: its front, the bad token, and the tokens that are passed over behind it, up to where the next piece begins. The bad token
-- cuts the unit at hand and is reported; those behind it have no effect.
use Rattle.std.specs.Prelude.{◌≡◌, ℕ, zero, suc, List, [], ◌∷◌, ◌++◌, map, true, false}
use Rattle.inf_settings.specs.Bounds.{Limits}
use Rattle.inf_machine.specs.declared.symbols.Symbol.{Symbol}
use Rattle.inf_syntax.specs.declared.actions.Action.{Action}
use Rattle.inf_unit.specs.{Messages.location, Tokens.SourceToken, Tokens.atom_of, Tokens.is_end}
use Rattle.inf_compilation.specs.{Actions.Compilation, Actions.piece_begun as work_begun, Context.Context}
use Rattle.inf_reader.specs.{Acting.cut_at, Handing.skips, Tests.complaint_of, declared.recovery.Recovery.Recovery}
use Rattle.inf_reader.specs.Reading.{between, passed as mode_behind, piece_rule, with_complaint}
use Rattle.inf_session.specs.Choices.{Choices}
use Rattle.inf_laws.specs.BadTokens.{skip_behind}
use Rattle.inf_laws.specs.KeptTokens.{Given, IsBad, Kept, Unfit, token_in}
use Rattle.inf_statement_laws.specs.{Happenings.Between, Laid.passed}
use Rattle.inf_program.specs.definition.States.{AsksNothing, State, context_of}
use Rattle.inf_program.specs.definition.Steps.{AllKept, Ends, Passes, Reads, Step}
use Rattle.inf_program.specs.definition.NextToken.{Position, at_front, behind_at, passed_over, steps_at, within}
use Rattle.inf_program.specs.definition.Fronts.{Course, Derives, Front, IsOpen, Progress, done_by, fresh_progress, is_whole, kept_atoms}
use Rattle.inf_program.specs.definition.Fronts.{progress_of, reached}

-- Definitions of tokens that are passed over

-- the effect of the conditional directives among steps
abbrev pub all_passed : List Step → Compilation → Compilation
all_passed [] w = w
all_passed (Reads given ∷ steps) w = all_passed steps w
all_passed (Passes m ∷ steps) w = all_passed steps (passed m w)
all_passed (Ends m ∷ steps) w = all_passed steps (passed m w)

-- the way in which tokens are passed over behind steps
abbrev pub skipped_behind : List Step → Recovery → Recovery
skipped_behind [] skip = skip
skipped_behind (Reads given ∷ steps) skip = skipped_behind steps (mode_behind skip (token_in given).kind)
skipped_behind (Passes m ∷ steps) skip = skipped_behind steps skip
skipped_behind (Ends m ∷ steps) skip = skipped_behind steps skip

-- each token that is handed on is passed over
abbrev pub AllSkipped : List Step → Recovery → Type 0
AllSkipped [] skip = Unit {0}
AllSkipped (Reads given ∷ steps) skip = (skips skip ≡ true) × AllSkipped steps (mode_behind skip (token_in given).kind)
AllSkipped (Passes m ∷ steps) skip = AllSkipped steps skip
AllSkipped (Ends m ∷ steps) skip = AllSkipped steps skip

-- The state behind a bad token, and the way in which the next token is passed over, or that none is any more.
pub record SkipState : Type 0 where
  pub state : State
  pub skip : Recovery

-- the state from which reading goes on
abbrev pub lands : SkipState → State
lands k = record k.state { reading = between k.skip }

-- the state behind the next token of the file
abbrev pub skipped_on : Limits → Choices → SkipState → SkipState
skipped_on limits o k =
    let steps = steps_at limits o passed_over k.state in
    record { state = behind_at o passed_over (all_passed steps k.state.work) k.state; skip = skipped_behind steps k.skip }

abbrev pub all_skipped : Limits → Choices → ℕ → SkipState → SkipState
all_skipped limits o zero k = k
all_skipped limits o (suc n) k = all_skipped limits o n (skipped_on limits o k)

-- Tokens are passed over further: no fatal message came, no directive asks for anything, and the next piece does not begin yet.
pub record SkipsOn (limits : Limits) (o : Choices) (k : SkipState) : Type 0 where
  pub is_going : k.state.is_over ≡ false
  pub is_not_over : k.state.work.report.counts.is_over ≡ false
  pub asks_nothing : AsksNothing k.state
  pub skips_more : skips k.skip ≡ true
  pub are_skipped : AllSkipped (steps_at limits o passed_over k.state) k.skip

abbrev pub AllSkipOn : Limits → Choices → ℕ → SkipState → Type 0
AllSkipOn limits o zero k = Unit {0}
AllSkipOn limits o (suc n) k = SkipsOn limits o k × AllSkipOn limits o n (skipped_on limits o k)

-- Definitions of the bad token

-- the compilation behind a bad token
abbrev pub cut_by : Limits → Context → SourceToken → Compilation → Compilation
cut_by limits context t w =
    let c = cut_at limits context t.place w in
    record c { report = with_complaint (location context.names t.place) (complaint_of t) c.report }

-- the way in which the tokens behind a bad one are passed over, by those before it
abbrev pub skip_from : List SourceToken → SourceToken → Recovery
skip_from tokens t = mode_behind (skip_behind (map atom_of tokens)) t.kind

-- The bad token is handed on for a token of the file, behind kept ones with which it begins no piece, and before others that are passed
-- over. More of the piece that the kept ones begin is to come.
pub record HandsOnBad (limits : Limits) (o : Choices) (left : List (Symbol Action)) (at : Position) (s : State) (p : Progress)
    (before : List Step) (given : Given) (after : List Step) : Type 0
  where
    pub steps : steps_at limits o at s ≡ before ++ Reads given ∷ after
    pub are_kept : AllKept before
    pub has_more : is_whole (done_by limits (context_of o s) before p).course.events left ≡ false
    pub is_bad : IsBad (done_by limits (context_of o s) before p).tokens given
    pub are_skipped : AllSkipped after (skip_from (done_by limits (context_of o s) before p).tokens (token_in given))

-- the state behind this token of the file
abbrev pub cut_in : Limits → Choices → Position → State → Progress → List Step → Given → List Step → SkipState
cut_in limits o at s p before given after =
    let c = context_of o s in
    let done = done_by limits c before p in
    record {
      state = behind_at o at (all_passed after (cut_by limits c (token_in given) done.work)) s;
      skip = skipped_behind after (skip_from done.tokens (token_in given));
    }

-- The bad token is handed on for the first token of the file, behind a kept one, which is not the end of the file.
pub record BadFirst (limits : Limits) (o : Choices) (s : State) : Type 0 where
  pub course : Course
  pub left : List (Symbol Action)
  pub effect : Between
  pub token : SourceToken
  pub rest : List Step
  pub given : Given
  pub after : List Step
  pub bad : HandsOnBad limits o left at_front s (fresh_progress course s.work) (Passes effect ∷ Reads (Kept token) ∷ rest) given after
  pub is_no_end : is_end token.kind ≡ false
  pub derives : Derives (Symbol.Rule piece_rule ∷ []) (kept_atoms (Passes effect ∷ Reads (Kept token) ∷ rest)) course left

abbrev pub cut_first : {limits : Limits} {o : Choices} {s : State} → BadFirst limits o s → SkipState
cut_first {limits} {o} {s} b =
    cut_in limits o at_front s (fresh_progress b.course s.work) (Passes b.effect ∷ Reads (Kept b.token) ∷ b.rest) b.given b.after

-- The first token that is handed on is the bad one, which is not the end of the file, unless that cuts a conditional directive.
abbrev pub IsNoEnd : Given → Type 0
IsNoEnd (Kept t) = is_end t.kind ≡ false
IsNoEnd (Unfit t) = Unit {0}

-- A piece begins with a kept token alone.
abbrev pub begun_by : Given → Compilation → Compilation
begun_by (Kept t) w = work_begun w
begun_by (Unfit t) w = w

pub record BadAlone (limits : Limits) (o : Choices) (s : State) : Type 0 where
  pub effect : Between
  pub given : Given
  pub after : List Step
  pub steps : steps_at limits o at_front s ≡ Passes effect ∷ Reads given ∷ after
  pub is_no_end : IsNoEnd given
  pub is_bad : IsBad [] given
  pub are_skipped : AllSkipped after (skip_from [] (token_in given))

abbrev pub cut_alone : {limits : Limits} {o : Choices} {s : State} → BadAlone limits o s → SkipState
cut_alone {limits} {o} {s} b =
    let w = begun_by b.given (passed b.effect s.work) in
    record {
      state = behind_at o at_front (all_passed b.after (cut_by limits (context_of o s) (token_in b.given) w)) s;
      skip = skipped_behind b.after (skip_from [] (token_in b.given));
    }

-- The bad token is handed on for a token of the file behind a front, which is open. The `further` tokens of the front are those that are
-- kept before the bad one.
pub record BadBehind (limits : Limits) (o : Choices) (s : State) : Type 0 where
  pub front : Front limits o s
  pub before : List Step
  pub given : Given
  pub after : List Step
  pub is_open : IsOpen front.left (reached front)
  pub bad : HandsOnBad limits o front.left within (reached front).state (progress_of (reached front)) before given after
  pub is_further : front.further ≡ kept_atoms before

abbrev pub cut_behind : {limits : Limits} {o : Choices} {s : State} → BadBehind limits o s → SkipState
cut_behind {limits} {o} {s} b =
    cut_in limits o within (reached b.front).state (progress_of (reached b.front)) b.before b.given b.after

pub data BadPiece (limits : Limits) (o : Choices) (s : State) : Type 0 where
  Alone : (bad : BadAlone limits o s) → BadPiece limits o s
  First : (bad : BadFirst limits o s) → BadPiece limits o s
  Behind : (bad : BadBehind limits o s) → BadPiece limits o s

-- the state behind the token of the file for which the bad one is handed on
abbrev pub cut_of : {limits : Limits} {o : Choices} {s : State} → BadPiece limits o s → SkipState
cut_of (Alone b) = cut_alone b
cut_of (First b) = cut_first b
cut_of (Behind b) = cut_behind b
