-- The part that a call reads leaves the work behind its last token, but for what is reported: turns write their messages, and lead where
-- turns lead that write none.
use Rattle.std.proofs.Common.{◌≡◌, ℕ, zero, suc, Bool, true, false, ◌&&◌, ◌||◌, refl, sym, ◌∙◌, ap, if◌then◌else◌}
use Rattle.std.proofs.lemmas.Bool.{or_parts}
use Rattle.inf_settings.specs.Bounds.{Limits}
use Rattle.inf_devices.specs.Files.{Sources}
use Rattle.inf_unit.proofs.Cases.{of_both}
use Rattle.inf_conditionals.specs.Judging.{is_none_pending, may_part}
use Rattle.inf_unit.specs.Directives.{Request}
use Rattle.inf_compilation.specs.Actions.{Compilation}
use Rattle.inf_unit.specs.Messages.{Reported}
use Rattle.inf_reader.specs.Handing.{is_empty, reads}
use Rattle.inf_reader.specs.Reading.{has_ended_at, is_mode_ended}
use Rattle.inf_session.specs.{Choices.Choices, Session.State, Session.answered, Session.asked_nothing, Session.carried_out}
use Rattle.inf_session.specs.Session.{has_ended, is_parted, is_resting, left, part, piece_closed, rested, stand_of, stepped, turn}
use Rattle.inf_program.specs.Writing.{silent_turn, silent_turned, unwritten}
use Rattle.inf_program.proofs.Turns.{one_turn, written_is_silent}
use Rattle.inf_calls.specs.Calls.{begun_with_rule}
use Rattle.inf_call_laws.specs.Texts.{AllGoOn, GoesOn, IsPlain, alone_stepped, alone_work}

-- Lemmas about one turn

answered_nothing : (sources : Sources) (o : Choices) (s : State) → IsPlain s → answered s.work.asked sources o (asked_nothing s) ≡ s
answered_nothing sources o s plain = ap (λ (a : Request). answered a sources o (asked_nothing s)) plain.asks_nothing
    ∙ ap (λ (a : Request). record s { work = record s.work { asked = a } }) (sym plain.asks_nothing)

carried_plainly : (sources : Sources) (o : Choices) (s : State) → IsPlain s → carried_out sources o s ≡ s
carried_plainly sources o s plain =
    ap (λ b. if b then s else if is_mode_ended s.reading.mode then left s else answered s.work.asked sources o (asked_nothing s))
    plain.is_not_over
    ∙ (ap (λ b. if b then left s else answered s.work.asked sources o (asked_nothing s)) plain.has_more
    ∙ answered_nothing sources o s plain)

-- the work with another report
abbrev reporting : Reported → State → Compilation
reporting r s = record s.work { report = r }

rested_work : (r : Reported) (s : State) → reporting r (rested s) ≡ reporting r s
rested_work r s =
    of_both (λ (x : State). reporting r x ≡ reporting r s) (has_ended s) s (if is_resting s then piece_closed s else s) (λ _. refl)
    (λ _. of_both (λ (x : State). reporting r x ≡ reporting r s) (is_resting s) (piece_closed s) s (λ _. refl) (λ _. refl))

turned_work : (limits : Limits) (sources : Sources) (o : Choices) (r : Reported) (s : State) → IsPlain (stepped limits o s)
    → reporting r (silent_turn limits sources o s) ≡ reporting r (stepped limits o s)
turned_work limits sources o r s plain = ap (λ (x : State). reporting r (rested x)) (carried_plainly sources o (stepped limits o s) plain)
    ∙ rested_work r (stepped limits o s)

-- Lemmas about a turn behind which the text goes on

not_between : (reads is_empty rests : Bool) → is_empty ≡ false → ((reads && is_empty) && rests) ≡ false
not_between true is_empty rests none = ap (λ b. b && rests) none
not_between false is_empty rests none = refl

pub not_resting : (s : State) → GoesOn s → is_resting s ≡ false
not_resting s on = not_between (reads s.reading.mode) (is_empty s.reading.stack) (is_none_pending s.conditions.pending) on.is_inside

either_state : (b : Bool) (s : State) → (if b then s else s) ≡ s
either_state true s = refl
either_state false s = refl

turned_on : (limits : Limits) (sources : Sources) (o : Choices) (s : State) → GoesOn (stepped limits o s)
    → silent_turn limits sources o s ≡ stepped limits o s
turned_on limits sources o s on =
    let x = stepped limits o s in
    ap rested (carried_plainly sources o x on.is_plain)
    ∙ (ap (λ b. if has_ended x then x else if b then piece_closed x else x) (not_resting x on) ∙ either_state (has_ended x) x)

not_ended : (s : State) → GoesOn s → s.is_over ≡ false → has_ended s ≡ false
not_ended s on over = ap (λ b. b || has_ended_at (stand_of s)) over
    ∙ (ap (λ b. b || is_mode_ended s.reading.mode) on.is_plain.is_not_over ∙ on.is_plain.has_more)

not_parted : (s : State) → GoesOn s → s.is_over ≡ false → is_parted s ≡ false
not_parted s on over = ap (λ b. b || ((reads s.reading.mode && is_empty s.reading.stack) && may_part s.conditions)) (not_ended s on over)
    ∙ not_between (reads s.reading.mode) (is_empty s.reading.stack) (may_part s.conditions) on.is_inside

-- Turns that write lead where turns lead that do not.

turns_alike : (limits : Limits) (sources : Sources) (o : Choices) (t s : State) → unwritten t ≡ unwritten s
    → unwritten (turn limits sources o t) ≡ unwritten (silent_turn limits sources o s)
turns_alike limits sources o t s same = one_turn limits sources o t ∙ (ap (silent_turn limits sources o) same
    ∙ (sym (one_turn limits sources o s) ∙ written_is_silent (silent_turn limits sources o s)))

last_turn : (limits : Limits) (sources : Sources) (o : Choices) (t : State) → has_ended t ≡ false
    → part limits sources o 1 t ≡ turn limits sources o t
last_turn limits sources o t going =
    let next = turn limits sources o t in
    ap (λ b. if b then t else if is_parted next then next else next) going ∙ either_state (is_parted next) next

more_turns : (limits : Limits) (sources : Sources) (o : Choices) (n : ℕ) (t : State) → has_ended t ≡ false
    → is_parted (turn limits sources o t) ≡ false
    → part limits sources o (suc n) t ≡ part limits sources o n (turn limits sources o t)
more_turns limits sources o n t going on =
    let next = turn limits sources o t in
    ap (λ b. if b then t else if is_parted next then next else part limits sources o n next) going
    ∙ ap (λ b. if b then next else part limits sources o n next) on

-- the work behind the part of a state, by turns that do not write from a state that is the same but for the lines that are written
part_by : (limits : Limits) (sources : Sources) (o : Choices) (n : ℕ) (t s : State) (r : Reported) → unwritten t ≡ unwritten s
    → has_ended s ≡ false → s.is_over ≡ false → AllGoOn limits sources o n s
    → IsPlain (stepped limits o (silent_turned limits sources o n s))
    → reporting r (part limits sources o (suc n) t) ≡ reporting r (stepped limits o (silent_turned limits sources o n s))
part_by limits sources o zero t s r same going unended on plain =
    ap (reporting r) (last_turn limits sources o t (ap has_ended same ∙ going))
    ∙ (ap (reporting r) (turns_alike limits sources o t s same) ∙ turned_work limits sources o r s plain)
part_by limits sources o (suc n) t s r same going unended on plain =
    let x = stepped limits o s in
    let next = silent_turn limits sources o s in
    let alike = turns_alike limits sources o t s same in
    let stays : next ≡ x = turned_on limits sources o s on.0 in
    let parted : is_parted (turn limits sources o t) ≡ false = ap is_parted alike ∙ (ap is_parted stays ∙ not_parted x on.0 unended) in
    ap (reporting r) (more_turns limits sources o (suc n) t (ap has_ended same ∙ going) parted)
    ∙ part_by limits sources o n (turn limits sources o t) next r alike (ap has_ended stays ∙ not_ended x on.0 unended)
    (ap (λ (y : State). y.is_over) stays ∙ unended) on.1 plain

-- whether nothing is over yet
open_before : (s : State) → has_ended s ≡ false → s.is_over ≡ false
open_before s going = (or_parts s.is_over (has_ended_at (stand_of s)) going).0

pub parts_leave_work : (limits : Limits) (rule : ℕ) (sources : Sources) (o : Choices) (n : ℕ) (s : State) → has_ended s ≡ false
    → AllGoOn limits sources o n (begun_with_rule rule s) → IsPlain (alone_stepped limits sources o rule n s)
    → record (alone_stepped limits sources o rule n s).work { report = (alone_work limits sources o rule n s).report }
    ≡ alone_work limits sources o rule n s
parts_leave_work limits rule sources o n s going on plain =
    let b = begun_with_rule rule s in
    sym (part_by limits sources o n b b (alone_work limits sources o rule n s).report refl going (open_before s going) on plain)
