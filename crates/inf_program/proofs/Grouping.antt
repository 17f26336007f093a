-- Within a piece, steps have the effect of the tokens as the machine of the grammar takes them, each with the effect behind it.
use Rattle.std.proofs.Common.{◌≡◌, ℕ, ◌-◌, max, List, [], ◌∷◌, true, false, Option, Some, None, refl, sym, ◌∙◌, ap, arith, true≢false}
use Rattle.std.specs.Prelude.{if◌then◌else◌}
use Rattle.inf_settings.specs.Bounds.{Limits}
use Rattle.inf_devices.specs.Files.{Sources}
use Rattle.inf_machine.specs.{Machine.fits, declared.symbols.Symbol.Symbol}
use Rattle.inf_syntax.specs.declared.actions.Action.{Action}
use Rattle.inf_grammar.specs.{Language.grammar, Language.known, Routines.closings}
use Rattle.inf_unit.specs.Tokens.{SourceToken, atom_of, is_end}
use Rattle.inf_compilation.specs.{Actions.Compilation, Actions.piece_begun as work_begun, Context.Context, Nesting.closed_ahead}
use Rattle.inf_compilation.specs.{Nesting.constructs_laid}
use Rattle.inf_constructs.specs.Constructs.{all_ended}
use Rattle.inf_reader.specs.{Handing.is_empty, Handing.skips, Handing.unfit_in, declared.recovery.Recovery.Recovery}
use Rattle.inf_reader.specs.Reading.{Reading, ReaderState, bad, between, judged, piece_begun, piece_rule, read_at, step, step_in, took}
use Rattle.inf_session.specs.{Choices.Choices, Session.State, Session.context_of, Session.stand_of, Session.stepped}
use Rattle.inf_laws.specs.KeptTokens.{Given, Kept, Unfit}
use Rattle.inf_statement_laws.specs.{Happenings.Between, Laid.passed, Readings.all_taken, Readings.directed}
use Rattle.inf_program.specs.{Turns.AllFit, Turns.AreQuiet, Turns.IsFit, Turns.IsUnfit, Turns.TurnsTakeTokens, Turns.all_steps}
use Rattle.inf_program.specs.{Turns.directive_with, Turns.grouped, Turns.piece_first, Turns.step_by, Turns.steps_by, Writing.silent_turned}
use Rattle.inf_program.specs.{definition.Steps.Ends, definition.Steps.Passes, definition.Steps.Reads, definition.Steps.Step}
use Rattle.inf_program.proofs.TurnSteps.{turns_are_steps}

-- Statements that are closed ahead once are closed.

pub closed_once : (limits : Limits) (count : ℕ) (w : Compilation) → count - w.closed ≡ 0 → max w.closed count ≡ w.closed
    → closed_ahead limits count w ≡ w
closed_once limits count w nothing_left same =
    ap (λ n. record (constructs_laid (all_ended limits n w.constructs) w) { closed = max w.closed count }) nothing_left
    ∙ ap (λ n. record w { closed = n }) same

closed_twice : (limits : Limits) (count : ℕ) (m b : Between) (w : Compilation)
    → let v = passed b (passed m (closed_ahead limits count w)) in closed_ahead limits count v ≡ v
closed_twice limits count m b w =
    closed_once limits count (passed b (passed m (closed_ahead limits count w))) (nothing_left w.closed) (same w.closed)
  where
    nothing_left : (n : ℕ) → count - max n count ≡ 0
    nothing_left n = omega arith

    same : (n : ℕ) → max (max n count) count ≡ max n count
    same n = omega arith

-- the effect from where a conditional directive ends
directives_joined : (limits : Limits) (count : ℕ) (m b : Between) (d : Option Between) (w : Compilation)
    → directed limits d count (passed b (passed m (closed_ahead limits count w)))
    ≡ passed (directive_with m b d) (closed_ahead limits count w)
directives_joined limits count m b None w = refl
directives_joined limits count m b (Some d) w = ap (passed d) (closed_twice limits count m b w)

-- Lemmas about a token within a piece

judged_fit : (limits : Limits) (context : Context) (t : SourceToken) (r : Reading) (w : Compilation)
    → fits grammar known (atom_of t) r.stack ≡ true → judged limits context t r w ≡ took limits context t r w
judged_fit limits context t r w fit = ap (λ b. if b then took limits context t r w else bad limits context t r w) fit

judged_unfit : (limits : Limits) (context : Context) (t : SourceToken) (r : Reading) (w : Compilation)
    → fits grammar known (atom_of t) r.stack ≡ false → judged limits context t r w ≡ bad limits context t r w
judged_unfit limits context t r w unfit = ap (λ b. if b then took limits context t r w else bad limits context t r w) unfit

read_inside : (limits : Limits) (context : Context) (t : SourceToken) (stack : List (Symbol Action)) (r : Reading) (w : Compilation)
    → is_empty stack ≡ false → read_at limits context t stack r w ≡ judged limits context t r w
read_inside limits context t [] r w inside = absurd (true≢false inside)
read_inside limits context t (symbol ∷ symbols) r w inside = refl

step_inside : (limits : Limits) (context : Context) (t : SourceToken) (r : Reading) (w : Compilation) → r.mode ≡ Recovery.Reads
    → is_empty r.stack ≡ false → step limits context t r w ≡ judged limits context t r w
step_inside limits context t r w reads inside =
    ap (λ m. step_in limits m context t r w) reads ∙ read_inside limits context t r.stack r w inside

pub step_fit : (limits : Limits) (context : Context) (t : SourceToken) (r : Reading) (w : Compilation) → IsFit t r
    → step limits context t r w ≡ took limits context t r w
step_fit limits context t r w fit = step_inside limits context t r w fit.reads fit.is_inside ∙ judged_fit limits context t r w fit.is_fit

step_bad : (limits : Limits) (context : Context) (t : SourceToken) (s : ReaderState) → IsUnfit t s.reading
    → step_by limits context (Reads (Kept t)) s ≡ bad limits context t s.reading s.work
step_bad limits context t s unfit = step_inside limits context t s.reading s.work unfit.reads unfit.is_inside
    ∙ judged_unfit limits context t s.reading s.work unfit.is_unfit

-- Lemmas about tokens that are passed over

kept_skipped : (limits : Limits) (m : Recovery) (context : Context) (t : SourceToken) (r : Reading) (w : Compilation) → skips m ≡ true
    → (step_in limits m context t r w).work ≡ w
kept_skipped limits Recovery.SkipsRoutine context t r w skip = refl
kept_skipped limits Recovery.SkipsDirective context t r w skip = refl
kept_skipped limits Recovery.Reads context t r w skip = absurd (true≢false (sym skip))
kept_skipped limits Recovery.Ended context t r w skip = absurd (true≢false (sym skip))

unfit_skipped : (limits : Limits) (m : Recovery) (context : Context) (t : SourceToken) (s : ReaderState) → skips m ≡ true
    → unfit_in limits m context t s ≡ step limits context t s.reading s.work
unfit_skipped limits Recovery.SkipsRoutine context t s skip = refl
unfit_skipped limits Recovery.SkipsDirective context t s skip = refl
unfit_skipped limits Recovery.Reads context t s skip = absurd (true≢false (sym skip))
unfit_skipped limits Recovery.Ended context t s skip = absurd (true≢false (sym skip))

step_skipped : (limits : Limits) (context : Context) (g : Given) (s : ReaderState) → skips s.reading.mode ≡ true
    → (step_by limits context (Reads g) s).work ≡ s.work
step_skipped limits context (Kept t) s skip = kept_skipped limits s.reading.mode context t s.reading s.work skip
step_skipped limits context (Unfit t) s skip = ap (λ (x : ReaderState). x.work) (unfit_skipped limits s.reading.mode context t s skip)
    ∙ kept_skipped limits s.reading.mode context t s.reading s.work skip

-- Lemmas about steps one by one

pub steps_are_taken : (limits : Limits) (context : Context) (steps : List Step) (s : ReaderState) → AllFit limits context steps s
    → let g = grouped steps in
    (steps_by limits context steps s).work
    ≡ all_taken limits context g.seen s.reading.stack (directed limits g.directive (closings s.reading.stack) (passed g.behind s.work))
steps_are_taken limits context [] s fit = refl
steps_are_taken limits context (Passes m ∷ steps) s fit = steps_are_taken limits context steps (step_by limits context (Passes m) s) fit
steps_are_taken limits context (Ends m ∷ steps) s fit =
    let g = grouped steps in
    steps_are_taken limits context steps (step_by limits context (Ends m) s) fit
    ∙ ap (all_taken limits context g.seen s.reading.stack)
    (directives_joined limits (closings s.reading.stack) m g.behind g.directive s.work)
steps_are_taken limits context (Reads (Unfit t) ∷ steps) s fit = absurd fit
steps_are_taken limits context (Reads (Kept t) ∷ steps) s fit =
    let g = grouped steps in
    steps_are_taken limits context steps (step_by limits context (Reads (Kept t)) s) fit.1
    ∙ ap (λ (x : ReaderState). all_taken limits context g.seen x.reading.stack
    (directed limits g.directive (closings x.reading.stack) (passed g.behind x.work)))
    (step_fit limits context t s.reading s.work fit.0)

-- Lemmas about turns from where a piece begins

-- the first token of a piece comes to a piece that has begun
step_first : (limits : Limits) (context : Context) (t : SourceToken) (m : Between) (w : Compilation) → is_end t.kind ≡ false
    → step limits context t (between Recovery.Reads) (passed m w) ≡ step_by limits context (Reads (Kept t)) (piece_first m w)
step_first limits context t m w is_no_end =
    let ended : ReaderState = record { reading = between Recovery.Ended; work = passed m w } in
    ap (λ b. if b then ended else judged limits context t (piece_begun (between Recovery.Reads)) (work_begun (passed m w))) is_no_end

pub whole_piece : (limits : Limits) (sources : Sources) (o : Choices) (n : ℕ) (s : State) (m : Between) (t : SourceToken)
    (steps : List Step)
    → s.reading ≡ between Recovery.Reads → is_end t.kind ≡ false → AreQuiet limits sources o n s
    → all_steps limits sources o n s ≡ Passes m ∷ Reads (Kept t) ∷ steps
    → AllFit limits (context_of o s) (Reads (Kept t) ∷ steps) (piece_first m s.work)
    → (stepped limits o (silent_turned limits sources o n s)).work
    ≡ all_taken limits (context_of o s) (grouped (Reads (Kept t) ∷ steps)).seen (Symbol.Rule piece_rule ∷ []) (work_begun (passed m s.work))
whole_piece limits sources o n s m t steps fresh is_no_end quiet all fit =
    let context = context_of o s in
    ap (λ (x : ReaderState). x.work) (turns_are_steps limits sources o n s quiet)
    ∙ (ap (λ (x : List Step). (steps_by limits context x (stand_of s)).work) all
    ∙ (ap (λ (r : Reading). (steps_by limits context steps (step limits context t r (passed m s.work))).work) fresh
    ∙ (ap (λ (x : ReaderState). (steps_by limits context steps x).work) (step_first limits context t m s.work is_no_end)
    ∙ steps_are_taken limits context (Reads (Kept t) ∷ steps) (piece_first m s.work) fit)))

pub turns_take_tokens : (limits : Limits) → TurnsTakeTokens limits
turns_take_tokens limits = record {
  turns = turns_are_steps limits;
  inside = steps_are_taken limits;
  cut = step_bad limits;
  skipped = step_skipped limits;
  whole = whole_piece limits;
}
