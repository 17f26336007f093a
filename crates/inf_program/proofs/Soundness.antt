-- Regular turns that end reading are a program.
use Rattle.std.proofs.Common.{◌≡◌, ◌⊎◌, inl, inr, ℕ, zero, suc, List, [], ◌∷◌, ◌&&◌, ◌||◌, Bool, true, false, refl, sym, ◌∙◌, ap, subst}
use Rattle.std.proofs.Common.{true≢false, if◌then◌else◌}
use Rattle.inf_settings.specs.Bounds.{Limits}
use Rattle.inf_devices.specs.Files.{Sources}
use Rattle.inf_machine.specs.{Grammar.here, declared.symbols.Symbol.Symbol}
use Rattle.inf_sources.specs.Inclusions.{Waiting}
use Rattle.inf_syntax.specs.declared.actions.Action.{Action}
use Rattle.inf_unit.specs.Tokens.{SourceToken}
use Rattle.inf_unit.proofs.Cases.{of_both}
use Rattle.inf_conditional_sides.specs.Sides.{has_none}
use Rattle.inf_reader.specs.{Reading.Reading, Reading.between, Reading.is_mode_ended, declared.recovery.Recovery.Recovery}
use Rattle.inf_reader.specs.Handing.{is_between, is_empty, reads, skips}
use Rattle.inf_session.specs.Choices.{Choices}
use Rattle.inf_laws.specs.KeptTokens.{Kept}
use Rattle.inf_laws.proofs.KeptTokens.{At}
use Rattle.inf_program.specs.{Regular.AreRegular, Regular.IsRegular, Turns.AllFit, definition.Fronts.reached, definition.Steps.Passes}
use Rattle.inf_program.specs.{definition.Steps.Reads}
use Rattle.inf_program.specs.definition.NextToken.{Position, afresh, passed_over, steps_at}
use Rattle.inf_program.specs.definition.BadPieces.{AllSkipOn, SkipState, SkipsOn, all_skipped, cut_of, lands, skipped_on}
use Rattle.inf_program.specs.definition.Program.{Bad, Continues, IsOver, IsProgram}
use Rattle.inf_program.specs.definition.States.{AsksNothing, State, answered, asked_nothing, carried_out, context_of, file_closed, followed}
use Rattle.inf_program.specs.definition.States.{handled, has_ended, is_resting, left, left_by, piece_closed, rested}
use Rattle.inf_program.specs.SideTurns.{IsQuietBySide, position_of, side_run, side_turn, side_turned, stand_of, stepped, side_steps}
use Rattle.inf_program.proofs.{Forward.FitTurn, Forward.FitTurns, Given.shape_at, Skipping.position_skips, Skipping.skip_turn}
use Rattle.inf_program.proofs.FrontTurns.{BadRead, FirstFit, IsFront, bad_read, broken_next, front_of, whole_next}
use Rattle.inf_program.proofs.Shapes.{CutFirst, CutSecond, Fit, Sorted, shape_skipped, sorted}
use Rattle.inf_program.proofs.Stepping.{followed_over, followed_plainly, goes_on, handled_reading, over_ends, rested_reading}

-- Lemmas about readings behind a turn

-- a program from a state on
abbrev pub HasProgram : Limits → Sources → Choices → State → Type 0
HasProgram limits sources o s = (final : State) × IsProgram limits sources o final s

-- Nothing is asked within a piece, or where tokens are passed over.
abbrev pub AsksAtEnds : State → Type 0
AsksAtEnds x = (is_between x.reading || is_mode_ended x.reading.mode) ≡ false → AsksNothing x

pub followed_reads : (sources : Sources) (o : Choices) (x : State) → x.reading ≡ between Recovery.Reads
    → (followed sources o x).reading ≡ between Recovery.Reads
followed_reads sources o x reading = rested_reading (handled sources o x)
    ∙ (handled_reading sources o x (ap (λ (r : Reading). is_mode_ended r.mode) reading) ∙ reading)

pub over_rested : (s : State) → has_ended s ≡ true → has_ended (rested s) ≡ true
over_rested s e = ap has_ended (ap (λ b. if b then s else if is_resting s then piece_closed s else s) e) ∙ e

pub mode_ended : (s : State) → is_mode_ended s.reading.mode ≡ true → has_ended s ≡ true
mode_ended s e = third s.is_over s.work.report.counts.is_over (is_mode_ended s.reading.mode) e
  where
    third : (a b c : Bool) → c ≡ true → (a || (b || c)) ≡ true
    third true b c q = refl
    third false true c q = refl
    third false false c q = q

-- where the files that wait are known
left_on : (sources : Sources) (o : Choices) (x : State) (waiting : List Waiting) → x.reading ≡ between Recovery.Ended
    → (has_ended (rested (left_by waiting (file_closed x))) ≡ true)
    ⊎ ((rested (left_by waiting (file_closed x))).reading ≡ between Recovery.Reads)
left_on sources o x [] reading =
    inl (over_rested (file_closed x) (mode_ended (file_closed x) (ap (λ (r : Reading). is_mode_ended r.mode) reading)))
left_on sources o x (w ∷ waiting) reading = inr (rested_reading (left_by (w ∷ waiting) (file_closed x))
    ∙ ap (λ (r : Reading). record r { mode = Recovery.Reads }) reading)

pub ended_on : (sources : Sources) (o : Choices) (x : State) → x.reading ≡ between Recovery.Ended → (b : Bool)
    → x.work.report.counts.is_over ≡ b
    → (has_ended (followed sources o x) ≡ true) ⊎ ((followed sources o x).reading ≡ between Recovery.Reads)
ended_on sources o x reading true over = inl (ap has_ended (followed_over sources o x over) ∙ over_ends x over)
ended_on sources o x reading false going =
    of_both (λ (y : State). (has_ended (rested y) ≡ true) ⊎ ((rested y).reading ≡ between Recovery.Reads)) x.is_supplied x
    (carried_out sources o x)
    (λ _. inl (over_rested x (mode_ended x (ap (λ (r : Reading). is_mode_ended r.mode) reading))))
    (λ _. subst (λ (y : State). (has_ended (rested y) ≡ true) ⊎ ((rested y).reading ≡ between Recovery.Reads)) (sym carried)
    (left_on sources o x x.nesting.waiting reading))
  where
    carried : carried_out sources o x ≡ left x
    carried =
        ap (λ b. if b then x else if is_mode_ended x.reading.mode then left x else answered x.work.asked sources o (asked_nothing x)) going
        ∙ ap (λ (r : Reading). if is_mode_ended r.mode then left x else answered x.work.asked sources o (asked_nothing x)) reading

-- Lemmas about the claims about `k` turns

abbrev pub Main : Limits → Sources → Choices → ℕ → Type 0
Main limits sources o k =
    (s : State) → s.reading ≡ between Recovery.Reads → AreRegular limits sources o k s → has_ended (side_run limits sources o k s) ≡ true
    → HasProgram limits sources o s

-- The turns behind a bad token end, and a program comes behind them.
pub record SkipEnd (limits : Limits) (sources : Sources) (o : Choices) (k : SkipState) : Type 0 where
  pub count : ℕ
  pub skip_on : AllSkipOn limits o count k
  pub rest : HasProgram limits sources o (followed sources o (lands (all_skipped limits o count k)))

-- from a state behind a turn on
pub record Regular (limits : Limits) (sources : Sources) (o : Choices) (k : ℕ) (x : State) : Type 0 where
  pub is_going : x.is_over ≡ false
  pub asks : AsksAtEnds x
  pub turns : AreRegular limits sources o k (followed sources o x)
  pub ends : has_ended (side_run limits sources o k (followed sources o x)) ≡ true

abbrev pub Skip : Limits → Sources → Choices → ℕ → Type 0
Skip limits sources o k =
    (from : SkipState) (x : State) → x ≡ lands from → Regular limits sources o k x → SkipEnd limits sources o from

abbrev pub Search : Limits → Sources → Choices → ℕ → Type 0
Search limits sources o k =
    (s : State) (i : ℕ) → FirstFit limits o s → FitTurns limits sources o i s
    → Regular limits sources o k (stepped limits o (side_turned limits sources o i s)) → HasProgram limits sources o s

pub record All (limits : Limits) (sources : Sources) (o : Choices) (k : ℕ) : Type 0 where
  pub main : Main limits sources o k
  pub skip : Skip limits sources o k
  pub search : Search limits sources o k

-- Lemmas about one turn more

pub run_on : (limits : Limits) (sources : Sources) (o : Choices) (k : ℕ) (s : State) → has_ended s ≡ false
    → has_ended (side_run limits sources o (suc k) s) ≡ true
    → has_ended (side_run limits sources o k (side_turn limits sources o s)) ≡ true
run_on limits sources o k s going ends =
    ap (λ b. has_ended (if b then s else side_run limits sources o k (side_turn limits sources o s))) (sym going) ∙ ends

-- A turn behind which nothing else happens, and the next one
pub record Onward (limits : Limits) (sources : Sources) (o : Choices) (k : ℕ) (x : State) : Type 0 where
  pub plain : followed sources o x ≡ x
  pub regular : IsRegular limits o x
  pub next : Regular limits sources o k (stepped limits o x)

onward : (limits : Limits) (sources : Sources) (o : Choices) (k : ℕ) (x : State) → IsQuietBySide x → Regular limits sources o (suc k) x
    → Onward limits sources o k x
onward limits sources o k x quiet r =
    let plain : followed sources o x ≡ x = followed_plainly sources o x quiet in
    let turns : AreRegular limits sources o (suc k) x = subst (λ (y : State). AreRegular limits sources o (suc k) y) plain r.turns in
    let ends : has_ended (side_run limits sources o (suc k) x) ≡ true =
    subst (λ (y : State). has_ended (side_run limits sources o (suc k) y) ≡ true) plain r.ends in
    let going : has_ended x ≡ false = goes_on x r.is_going quiet.is_not_over quiet.has_more in
    record {
      plain = plain;
      regular = (turns going).0;
      next = record {
        is_going = r.is_going;
        asks = (turns going).0.asks_at_ends;
        turns = (turns going).1;
        ends = run_on limits sources o k x going ends;
      };
    }

-- reading has not ended behind a turn behind which nothing else happens
pub never_ends : (limits : Limits) (sources : Sources) (o : Choices) (x : State) → IsQuietBySide x → Regular limits sources o zero x → ⊥
never_ends limits sources o x quiet r = true≢false (sym r.ends ∙ (ap has_ended (followed_plainly sources o x quiet)
    ∙ goes_on x r.is_going quiet.is_not_over quiet.has_more))

-- Lemmas about tokens that are passed over

-- behind a bad piece
skip_done : (limits : Limits) (sources : Sources) (o : Choices) (from : SkipState) (x : State) → x ≡ lands from
    → HasProgram limits sources o (followed sources o x) → SkipEnd limits sources o from
skip_done limits sources o from x same p = record {
  count = zero;
  skip_on = tt;
  rest = subst (λ (y : State). HasProgram limits sources o (followed sources o y)) same p;
}

skip_reading : (from : SkipState) (x : State) (m : Recovery) → x ≡ lands from → from.skip ≡ m → x.reading ≡ between m
skip_reading from x m same is = ap (λ (y : State). y.reading) same ∙ ap between is

skip_is_quiet : (from : SkipState) (x : State) → x ≡ lands from → skips from.skip ≡ true → x.work.report.counts.is_over ≡ false
    → AsksAtEnds x → IsQuietBySide x
skip_is_quiet from x same skip over asks =
    let front : is_between x.reading ≡ false =
    ap (λ (y : State). is_between y.reading) same ∙ ap (λ (p : Position). p.is_front) (position_skips from.skip skip) in
    let has_more : is_mode_ended x.reading.mode ≡ false =
    ap (λ (y : State). is_mode_ended y.reading.mode) same ∙ not_ended from.skip skip in
    record {
      is_not_over = over;
      has_more = has_more;
      asks_nothing = asks (ap (λ b. b || is_mode_ended x.reading.mode) front ∙ has_more);
      is_inside = ap (λ b. b && has_none x.sides.texts) front;
    }
  where
    not_ended : (m : Recovery) → skips m ≡ true → is_mode_ended m ≡ false
    not_ended Recovery.SkipsRoutine e = refl
    not_ended Recovery.SkipsDirective e = refl
    not_ended Recovery.Reads e = refl
    not_ended Recovery.Ended e = absurd (true≢false (sym e))

-- one token more is passed over
pub skip_more : (limits : Limits) (sources : Sources) (o : Choices) (k : ℕ) → Skip limits sources o k → (from : SkipState) (x : State)
    → x ≡ lands from → skips from.skip ≡ true → IsQuietBySide x → Regular limits sources o (suc k) x → SkipEnd limits sources o from
skip_more limits sources o k later from x same skip quiet r =
    let on : SkipsOn limits o from = record {
      is_going = ap (λ (y : State). y.is_over) (sym same) ∙ r.is_going;
      is_not_over = ap (λ (y : State). y.work.report.counts.is_over) (sym same) ∙ quiet.is_not_over;
      asks_nothing = subst (λ (y : State). AsksNothing y) same quiet.asks_nothing;
      skips_more = skip;
      are_skipped = shape_skipped (steps_at limits o passed_over from.state) from.skip (shape_at limits o passed_over from.state) skip;
    } in
    let w : SkipEnd limits sources o (skipped_on limits o from) =
    later (skipped_on limits o from) (stepped limits o x) (ap (stepped limits o) same ∙ skip_turn limits sources o from on)
    (onward limits sources o k x quiet r).next in
    record { count = suc w.count; skip_on = (on, w.skip_on); rest = w.rest }

-- the program behind the end of a file
pub behind_end : (limits : Limits) (sources : Sources) (o : Choices) (k : ℕ) → Main limits sources o k → (x : State)
    → (has_ended (followed sources o x) ≡ true) ⊎ ((followed sources o x).reading ≡ between Recovery.Reads)
    → Regular limits sources o k x → HasProgram limits sources o (followed sources o x)
behind_end limits sources o k main x (inl ended) r = (followed sources o x, IsOver ended refl)
behind_end limits sources o k main x (inr reading) r = main (followed sources o x) reading r.turns r.ends

-- the turns behind a bad token, by the way in which tokens are passed over
skip_by : (limits : Limits) (sources : Sources) (o : Choices) (k : ℕ) → Main limits sources o k
    → ((from : SkipState) (x : State) → x ≡ lands from → skips from.skip ≡ true → IsQuietBySide x → Regular limits sources o k x
    → SkipEnd limits sources o from)
    → (from : SkipState) (x : State) → x ≡ lands from → x.work.report.counts.is_over ≡ false → Regular limits sources o k x
    → (m : Recovery) → from.skip ≡ m → SkipEnd limits sources o from
skip_by limits sources o k main more from x same over r Recovery.Reads is = skip_done limits sources o from x same
    (main (followed sources o x) (followed_reads sources o x (skip_reading from x Recovery.Reads same is)) r.turns r.ends)
skip_by limits sources o k main more from x same over r Recovery.Ended is = skip_done limits sources o from x same
    (behind_end limits sources o k main x (ended_on sources o x (skip_reading from x Recovery.Ended same is) false over) r)
skip_by limits sources o k main more from x same over r Recovery.SkipsRoutine is =
    more from x same (ap skips is) (skip_is_quiet from x same (ap skips is) over r.asks) r
skip_by limits sources o k main more from x same over r Recovery.SkipsDirective is =
    more from x same (ap skips is) (skip_is_quiet from x same (ap skips is) over r.asks) r

pub skip_all : (limits : Limits) (sources : Sources) (o : Choices) (k : ℕ) → Main limits sources o k
    → ((from : SkipState) (x : State) → x ≡ lands from → skips from.skip ≡ true → IsQuietBySide x → Regular limits sources o k x
    → SkipEnd limits sources o from)
    → (from : SkipState) (x : State) → x ≡ lands from → Regular limits sources o k x → (b : Bool)
    → x.work.report.counts.is_over ≡ b → SkipEnd limits sources o from
skip_all limits sources o k main more from x same r true over = skip_done limits sources o from x same
    (followed sources o x, IsOver (ap has_ended (followed_over sources o x over) ∙ over_ends x over) refl)
skip_all limits sources o k main more from x same r false over = skip_by limits sources o k main more from x same over r from.skip refl

-- Lemmas about fronts

-- a bad piece, and the program behind it
pub bad_on : (limits : Limits) (sources : Sources) (o : Choices) (k : ℕ) → Skip limits sources o k → (s x : State)
    → s.reading ≡ between Recovery.Reads → has_ended s ≡ false → BadRead limits o s x → Regular limits sources o k x
    → HasProgram limits sources o s
bad_on limits sources o k skip s x fresh going b r =
    let w : SkipEnd limits sources o (cut_of b.bad) = skip (cut_of b.bad) x b.same r in
    (w.rest.0, Continues going fresh (Bad b.bad w.count w.skip_on refl) w.rest.1)

-- one turn more within a piece
fit_more : (limits : Limits) (sources : Sources) (o : Choices) (i : ℕ) (s : State) → FitTurns limits sources o i s
    → FitTurn limits sources o (side_turned limits sources o i s) → FitTurns limits sources o (suc i) s
fit_more limits sources o zero s all f = (f, tt)
fit_more limits sources o (suc i) s all f = (all.0, fit_more limits sources o i (side_turn limits sources o s) all.1 f)

turned_more : (limits : Limits) (sources : Sources) (o : Choices) (i : ℕ) (s : State)
    → side_turned limits sources o (suc i) s ≡ side_turn limits sources o (side_turned limits sources o i s)
turned_more limits sources o zero s = refl
turned_more limits sources o (suc i) s = turned_more limits sources o i (side_turn limits sources o s)

-- within a piece nothing else happens
pub quiet_within : (x : State) → x.reading.mode ≡ Recovery.Reads → is_empty x.reading.stack ≡ false → x.work.report.counts.is_over ≡ false
    → AsksAtEnds x → IsQuietBySide x
quiet_within x reading some over asks =
    let inside : is_between x.reading ≡ false = ap (λ (m : Recovery). reads m && is_empty x.reading.stack) reading ∙ some in
    let has_more : is_mode_ended x.reading.mode ≡ false = ap is_mode_ended reading in
    record {
      is_not_over = over;
      has_more = has_more;
      asks_nothing = asks (ap (λ b. b || is_mode_ended x.reading.mode) inside ∙ has_more);
      is_inside = ap (λ b. b && has_none x.sides.texts) inside;
    }

inside_of : (x : State) → x.reading.mode ≡ Recovery.Reads → is_empty x.reading.stack ≡ false → is_between x.reading ≡ false
inside_of x reading some = ap (λ (m : Recovery). reads m && is_empty x.reading.stack) reading ∙ some

-- the next turn within a piece, by its steps
within_by : (limits : Limits) (sources : Sources) (o : Choices) (k : ℕ) → Skip limits sources o k → Search limits sources o k → (s : State)
    (i : ℕ)
    → let z = stepped limits o (side_turned limits sources o i s) in
    FirstFit limits o s → FitTurns limits sources o i s → IsQuietBySide z → is_between z.reading ≡ false → z.is_over ≡ false
    → is_empty z.reading.stack ≡ false → Onward limits sources o k z
    → Sorted limits (context_of o z) (side_steps limits o z) (stand_of z) → HasProgram limits sources o s
within_by limits sources o k skip search s i first all quiet inside going some on (Fit fit kept) =
    let q : State = side_turned limits sources o i s in
    let z : State = stepped limits o q in
    let turn : FitTurn limits sources o q = record {
      is_quiet = quiet;
      is_within = inside;
      are_fit = subst (λ (y : State). AllFit limits (context_of o y) (side_steps limits o y) (stand_of y)) (sym on.plain) fit;
    } in
    let same : side_turned limits sources o (suc i) s ≡ z = turned_more limits sources o i s ∙ on.plain in
    search s (suc i) first (fit_more limits sources o i s all turn)
    (subst (λ (y : State). Regular limits sources o k (stepped limits o y)) (sym same) on.next)
within_by limits sources o k skip search s i first all quiet inside going some on (CutFirst m given after steps out skipped) =
    let z : State = stepped limits o (side_turned limits sources o i s) in
    bad_on limits sources o k skip s (stepped limits o z) first.is_fresh first.is_going
    (bad_read limits sources o i s (Passes m ∷ []) given after first all quiet inside going steps tt some out skipped) on.next
within_by limits sources o k skip search s i first all quiet inside going some on (CutSecond m h given after steps fit more out skipped) =
    let z : State = stepped limits o (side_turned limits sources o i s) in
    bad_on limits sources o k skip s (stepped limits o z) first.is_fresh first.is_going
    (bad_read limits sources o i s (Passes m ∷ Reads (Kept h) ∷ []) given after first all quiet inside going steps (fit, tt) more out
    skipped) on.next

-- the tokens of a piece so far
at_front_of : (limits : Limits) (sources : Sources) (o : Choices) (i : ℕ) (s : State) → FirstFit limits o s → FitTurns limits sources o i s
    → (tokens : List SourceToken) × At tokens (stepped limits o (side_turned limits sources o i s)).reading
at_front_of limits sources o i s first all =
    let z : State = stepped limits o (side_turned limits sources o i s) in
    let f : IsFront limits sources o i s [] z.reading.stack = front_of limits sources o i s [] [] z.reading.stack first all here in
    ((reached f.front).tokens, f.at_end.inside.at)

-- the turns behind a piece that is still open
pub open_on : (limits : Limits) (sources : Sources) (o : Choices) (k : ℕ) → Skip limits sources o k → Search limits sources o k
    → (s : State) (i : ℕ) → FirstFit limits o s → FitTurns limits sources o i s
    → (tokens : List SourceToken) → At tokens (stepped limits o (side_turned limits sources o i s)).reading
    → is_empty (stepped limits o (side_turned limits sources o i s)).reading.stack ≡ false
    → (stepped limits o (side_turned limits sources o i s)).work.report.counts.is_over ≡ false
    → Regular limits sources o (suc k) (stepped limits o (side_turned limits sources o i s)) → HasProgram limits sources o s
open_on limits sources o k skip search s i first all tokens at some over r =
    let z : State = stepped limits o (side_turned limits sources o i s) in
    let quiet : IsQuietBySide z = quiet_within z at.reads some over r.asks in
    within_by limits sources o k skip search s i first all quiet (inside_of z at.reads some) r.is_going some
    (onward limits sources o k z quiet r)
    (sorted limits (context_of o z) (side_steps limits o z) (stand_of z) tokens
    (shape_at limits o (position_of z.reading) z) at some)

-- the piece behind some turns: broken off, whole, or still open
pub search_by : (limits : Limits) (sources : Sources) (o : Choices) (k : ℕ) → Main limits sources o k → (s : State) (i : ℕ)
    → FirstFit limits o s → FitTurns limits sources o i s
    → ((tokens : List SourceToken) → At tokens (stepped limits o (side_turned limits sources o i s)).reading
    → is_empty (stepped limits o (side_turned limits sources o i s)).reading.stack ≡ false
    → (stepped limits o (side_turned limits sources o i s)).work.report.counts.is_over ≡ false → HasProgram limits sources o s)
    → Regular limits sources o k (stepped limits o (side_turned limits sources o i s)) → (b : Bool)
    → (stepped limits o (side_turned limits sources o i s)).work.report.counts.is_over ≡ b
    → (stack : List (Symbol Action)) → (stepped limits o (side_turned limits sources o i s)).reading.stack ≡ stack
    → HasProgram limits sources o s
search_by limits sources o k main s i first all later r true over stack is =
    let x : State = afresh (stepped limits o (side_turned limits sources o i s)) in
    (x, Continues first.is_going first.is_fresh (broken_next limits sources o i s first all over) (IsOver (over_ends x over) refl))
search_by limits sources o k main s i first all later r false over [] is =
    let z : State = stepped limits o (side_turned limits sources o i s) in
    let at : (tokens : List SourceToken) × At tokens z.reading = at_front_of limits sources o i s first all in
    let reading : z.reading ≡ between Recovery.Reads =
    ap (λ m. record { mode = m; stack = z.reading.stack }) at.1.reads ∙ ap (λ stack. record { mode = Recovery.Reads; stack = stack }) is in
    let p : HasProgram limits sources o (followed sources o z) =
    main (followed sources o z) (followed_reads sources o z reading) r.turns r.ends in
    (p.0, Continues first.is_going first.is_fresh (whole_next limits sources o i s first all reading) p.1)
search_by limits sources o k main s i first all later r false over (symbol ∷ symbols) is =
    let at : (tokens : List SourceToken) × At tokens (stepped limits o (side_turned limits sources o i s)).reading =
    at_front_of limits sources o i s first all in
    later at.0 at.1 (ap is_empty is) over
