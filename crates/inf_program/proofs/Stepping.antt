-- Turns of a reading whose messages are still to be written: which of them lead from one state to another, and what a turn does where
-- nothing else happens behind its token.
use Rattle.std.proofs.Common.{◌≡◌, ℕ, suc, ◌+◌, List, [], ◌∷◌, ◌&&◌, ◌||◌, Bool, true, false, refl, sym, ◌∙◌, ap, arith, if◌then◌else◌}
use Rattle.inf_settings.specs.Bounds.{Limits}
use Rattle.inf_scanner.specs.declared.tokens.Place.{Place}
use Rattle.inf_devices.specs.Files.{Sources}
use Rattle.inf_sources.specs.Inclusions.{Inclusion, Opens, OpensNone, Waiting, inclusion}
use Rattle.inf_sources.specs.declared.open_files.Included.{Included}
use Rattle.inf_unit.specs.Directives.{Characters, End, Include, Nothing, Request}
use Rattle.inf_unit.proofs.Cases.{of_both}
use Rattle.inf_compilation.specs.Actions.{Compilation}
use Rattle.inf_reader.specs.{Handing.is_empty, Handing.reads, Handing.skips, Reading.ReaderState, Reading.Reading, Reading.is_mode_ended}
use Rattle.inf_reader.specs.{declared.recovery.Recovery.Recovery}
use Rattle.inf_session.specs.Choices.{Choices}
use Rattle.inf_program.specs.Turns.{steps_by}
use Rattle.inf_program.specs.definition.NextToken.{Position, afresh, behind_at, position, steps_at, within}
use Rattle.inf_program.specs.definition.States.{State, answered, asked_nothing, carried_out, context_of, file_closed, followed, has_ended}
use Rattle.inf_program.specs.definition.States.{included_by, handled, is_resting, left, left_by, piece_closed, rested}
use Rattle.inf_program.specs.SideTurns.{IsQuietBySide, position_of, side_run, side_turn, stand_of, stepped}

-- Lemmas about turns that lead from one state to another

pub record Comes (limits : Limits) (sources : Sources) (o : Choices) (s t : State) : Type 0 where
  pub turns : ℕ
  pub leads : (more : ℕ) → side_run limits sources o (turns + more) s ≡ side_run limits sources o more t

nothing_more : (n : ℕ) → 0 + n ≡ n
nothing_more n = omega arith

one_more : (n : ℕ) → 1 + n ≡ suc n
one_more n = omega arith

all_more : (a b n : ℕ) → (a + b) + n ≡ a + (b + n)
all_more a b n = omega arith

pub comes_same : (limits : Limits) (sources : Sources) (o : Choices) (s t : State) → s ≡ t → Comes limits sources o s t
comes_same limits sources o s t same = record {
  turns = 0;
  leads = λ more. ap (λ n. side_run limits sources o n s) (nothing_more more) ∙ ap (side_run limits sources o more) same;
}

pub comes_then : (limits : Limits) (sources : Sources) (o : Choices) (s t u : State) → Comes limits sources o s t
    → Comes limits sources o t u → Comes limits sources o s u
comes_then limits sources o s t u a b = record {
  turns = a.turns + b.turns;
  leads = λ more. ap (λ n. side_run limits sources o n s) (all_more a.turns b.turns more) ∙ (a.leads (b.turns + more) ∙ b.leads more);
}

pub comes_next : (limits : Limits) (sources : Sources) (o : Choices) (s : State) → has_ended s ≡ false
    → Comes limits sources o s (side_turn limits sources o s)
comes_next limits sources o s going = record {
  turns = 1;
  leads = λ more. ap (λ n. side_run limits sources o n s) (one_more more)
      ∙ ap (λ b. if b then s else side_run limits sources o more (side_turn limits sources o s)) going;
}

-- Reading has ended, or not.

none_of_three : (a b c : Bool) → a ≡ false → b ≡ false → c ≡ false → (a || (b || c)) ≡ false
none_of_three a b c x y z = ap (λ d. d || (b || c)) x ∙ (ap (λ d. d || c) y ∙ z)

pub goes_on : (s : State) → s.is_over ≡ false → s.work.report.counts.is_over ≡ false → is_mode_ended s.reading.mode ≡ false
    → has_ended s ≡ false
goes_on s going not_over has_more =
    none_of_three s.is_over s.work.report.counts.is_over (is_mode_ended s.reading.mode) going not_over has_more

second_of_three : (a b c : Bool) → b ≡ true → (a || (b || c)) ≡ true
second_of_three true b c e = refl
second_of_three false b c e = ap (λ d. d || c) e

pub over_ends : (s : State) → s.work.report.counts.is_over ≡ true → has_ended s ≡ true
over_ends s over = second_of_three s.is_over s.work.report.counts.is_over (is_mode_ended s.reading.mode) over

-- Nothing else happens behind a token.

answered_plainly : (asked : Request) (sources : Sources) (o : Choices) (s : State) → asked ≡ Nothing → answered asked sources o s ≡ s
answered_plainly asked sources o s nothing = ap (λ a. answered a sources o s) nothing

carried_plainly : (sources : Sources) (o : Choices) (s : State) → IsQuietBySide s → s.work.asked ≡ Nothing → carried_out sources o s ≡ s
carried_plainly sources o s quiet nothing =
    ap (λ b. if b then s else if is_mode_ended s.reading.mode then left s else answered s.work.asked sources o (asked_nothing s))
    quiet.is_not_over
    ∙ (ap (λ b. if b then left s else answered s.work.asked sources o (asked_nothing s)) quiet.has_more
    ∙ (answered_plainly s.work.asked sources o (asked_nothing s) nothing
    ∙ ap (λ (a : Request). record s { work = record s.work { asked = a } }) (sym nothing)))

handled_plainly : (sources : Sources) (o : Choices) (s : State) → IsQuietBySide s → handled sources o s ≡ s
handled_plainly sources o s quiet = of_both (λ (x : State). x ≡ s) s.is_supplied s (carried_out sources o s) (λ _. refl)
    (λ of_file. carried_plainly sources o s quiet (quiet.asks_nothing of_file))

either_state : (b : Bool) (s : State) → (if b then s else s) ≡ s
either_state true s = refl
either_state false s = refl

rested_plainly : (s : State) → is_resting s ≡ false → rested s ≡ s
rested_plainly s inside = ap (λ b. if has_ended s then s else if b then piece_closed s else s) inside ∙ either_state (has_ended s) s

pub followed_plainly : (sources : Sources) (o : Choices) (s : State) → IsQuietBySide s → followed sources o s ≡ s
followed_plainly sources o s quiet = ap rested (handled_plainly sources o s quiet) ∙ rested_plainly s quiet.is_inside

-- behind a fatal message nothing happens
pub followed_over : (sources : Sources) (o : Choices) (s : State) → s.work.report.counts.is_over ≡ true → followed sources o s ≡ s
followed_over sources o s over = ap rested (of_both (λ (x : State). x ≡ s) s.is_supplied s (carried_out sources o s) (λ _. refl)
    (λ _. ap (λ b. if b then s else if is_mode_ended s.reading.mode then left s else answered s.work.asked sources o (asked_nothing s)) over))
    ∙ ap (λ b. if b then s else if is_resting s then piece_closed s else s) (over_ends s over)

-- Lemmas about the reading behind a token

included_reading : (sources : Sources) (o : Choices) (unit : Place) (text : List ℕ) (i : Inclusion) (s : State)
    → (included_by sources o unit text i s).reading ≡ s.reading
included_reading sources o unit text (Opens name) s = refl
included_reading sources o unit text (OpensNone Included.Entered) s = refl
included_reading sources o unit text (OpensNone Included.NotThere) s = refl
included_reading sources o unit text (OpensNone Included.TooDeep) s = refl

answered_reading : (asked : Request) (sources : Sources) (o : Choices) (s : State) → (answered asked sources o s).reading ≡ s.reading
answered_reading (Include text unit) sources o s = included_reading sources o unit text (inclusion sources o.directories text s.nesting) s
answered_reading End sources o s = refl
answered_reading (Characters set) sources o s = refl
answered_reading Nothing sources o s = refl

carried_out_reading : (sources : Sources) (o : Choices) (s : State) → is_mode_ended s.reading.mode ≡ false
    → (carried_out sources o s).reading ≡ s.reading
carried_out_reading sources o s going = of_both (λ (x : State). x.reading ≡ s.reading) s.work.report.counts.is_over s
    (if is_mode_ended s.reading.mode then left s else answered s.work.asked sources o (asked_nothing s))
    (λ _. refl)
    (λ _. ap (λ b. (if b then left s else answered s.work.asked sources o (asked_nothing s)).reading) going
    ∙ answered_reading s.work.asked sources o (asked_nothing s))

pub handled_reading : (sources : Sources) (o : Choices) (s : State) → is_mode_ended s.reading.mode ≡ false
    → (handled sources o s).reading ≡ s.reading
handled_reading sources o s going = of_both (λ (x : State). x.reading ≡ s.reading) s.is_supplied s (carried_out sources o s) (λ _. refl)
    (λ _. carried_out_reading sources o s going)

pub rested_reading : (s : State) → (rested s).reading ≡ s.reading
rested_reading s = of_both (λ (x : State). x.reading ≡ s.reading) (has_ended s) s (if is_resting s then piece_closed s else s) (λ _. refl)
    (λ _. of_both (λ (x : State). x.reading ≡ s.reading) (is_resting s) (piece_closed s) s (λ _. refl) (λ _. refl))

-- Behind a token of a file comes one of a file, and behind one of a supplied text another one of it.

left_supplied : (waiting : List Waiting) (s : State) → (left_by waiting s).is_supplied ≡ s.is_supplied
left_supplied [] s = refl
left_supplied (w ∷ waiting) s = refl

included_supplied : (sources : Sources) (o : Choices) (unit : Place) (text : List ℕ) (i : Inclusion) (s : State)
    → (included_by sources o unit text i s).is_supplied ≡ s.is_supplied
included_supplied sources o unit text (Opens name) s = refl
included_supplied sources o unit text (OpensNone Included.Entered) s = refl
included_supplied sources o unit text (OpensNone Included.NotThere) s = refl
included_supplied sources o unit text (OpensNone Included.TooDeep) s = refl

answered_supplied : (asked : Request) (sources : Sources) (o : Choices) (s : State) → (answered asked sources o s).is_supplied ≡ s.is_supplied
answered_supplied (Include text unit) sources o s = included_supplied sources o unit text (inclusion sources o.directories text s.nesting) s
answered_supplied End sources o s = refl
answered_supplied (Characters set) sources o s = refl
answered_supplied Nothing sources o s = refl

carried_supplied : (sources : Sources) (o : Choices) (s : State) → (carried_out sources o s).is_supplied ≡ s.is_supplied
carried_supplied sources o s = of_both (λ (x : State). x.is_supplied ≡ s.is_supplied) s.work.report.counts.is_over s
    (if is_mode_ended s.reading.mode then left s else answered s.work.asked sources o (asked_nothing s)) (λ _. refl)
    (λ _. of_both (λ (x : State). x.is_supplied ≡ s.is_supplied) (is_mode_ended s.reading.mode) (left s)
    (answered s.work.asked sources o (asked_nothing s)) (λ _. left_supplied s.nesting.waiting (file_closed s))
    (λ _. answered_supplied s.work.asked sources o (asked_nothing s)))

rested_supplied : (s : State) → (rested s).is_supplied ≡ s.is_supplied
rested_supplied s =
    of_both (λ (x : State). x.is_supplied ≡ s.is_supplied) (has_ended s) s (if is_resting s then piece_closed s else s) (λ _. refl)
    (λ _. of_both (λ (x : State). x.is_supplied ≡ s.is_supplied) (is_resting s) (piece_closed s) s (λ _. refl) (λ _. refl))

pub followed_supplied : (sources : Sources) (o : Choices) (s : State) → (followed sources o s).is_supplied ≡ s.is_supplied
followed_supplied sources o s = rested_supplied (handled sources o s)
    ∙ of_both (λ (x : State). x.is_supplied ≡ s.is_supplied) s.is_supplied s (carried_out sources o s) (λ _. refl)
    (λ _. carried_supplied sources o s)

-- Lemmas about the steps of a turn

abbrev pub stand : Reading → Compilation → ReaderState
stand r w = record { reading = r; work = w }

pub position_within : (r : Reading) → r.mode ≡ Recovery.Reads → is_empty r.stack ≡ false → position_of r ≡ within
position_within r reading some =
    ap (λ (m : Recovery). position (reads m && is_empty r.stack) (skips m)) reading ∙ ap (λ b. position b false) some

pub turn_steps : (limits : Limits) (sources : Sources) (o : Choices) (s : State) (p : Position) → position_of s.reading ≡ p
    → stand_of (stepped limits o s) ≡ steps_by limits (context_of o s) (steps_at limits o p (afresh s)) (stand_of s)
turn_steps limits sources o s p at =
    ap (λ (q : Position). steps_by limits (context_of o s) (steps_at limits o q (afresh s)) (stand_of s)) at

-- the state behind the token of a turn
pub turn_behind : (limits : Limits) (o : Choices) (s : State) (p : Position) (w : Compilation) → position_of s.reading ≡ p
    → (stepped limits o s).work ≡ w → afresh (stepped limits o s) ≡ behind_at o p w (afresh s)
turn_behind limits o s p w at same = ap (λ (q : Position). behind_at o q (stepped limits o s).work (afresh s)) at
    ∙ ap (λ (v : Compilation). behind_at o p v (afresh s)) same

-- the state behind the token of a turn, where the reading and the compilation behind it are known
pub turn_lands : (limits : Limits) (o : Choices) (s : State) (p : Position) (r : Reading) (w : Compilation) → position_of s.reading ≡ p
    → stand_of (stepped limits o s) ≡ stand r w → stepped limits o s ≡ record (behind_at o p w (afresh s)) { reading = r }
turn_lands limits o s p r w at lands =
    let x : State = stepped limits o s in
    let same : afresh x ≡ behind_at o p w (afresh s) = turn_behind limits o s p w at (ap (λ (y : ReaderState). y.work) lands) in
    ap (λ (y : State). record y { reading = x.reading }) same
    ∙ ap (λ (q : Reading). record (behind_at o p w (afresh s)) { reading = q }) (ap (λ (y : ReaderState). y.reading) lands)
