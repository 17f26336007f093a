-- Counts keep to their settings from the start of a reading on, in each state to which it comes.
use Rattle.std.proofs.{Math.Nat.max-le, lemmas.Bool.ltb-false}
use Rattle.std.proofs.Common.{Bool, List, None, Option, Some, arith, cond, false, if◌then◌else◌, length, ltb, refl, suc, true, zero, ℕ}
use Rattle.std.proofs.Common.{◌+◌, ◌-◌, ◌≡◌, ◌≤◌}
use Rattle.inf_scanner.specs.declared.tokens.Place.{Place}
use Rattle.inf_text_lexer.specs.TextReaders.{TextReader}
use Rattle.inf_settings.specs.{Bounds.Limits, Bounds.limits_of, Settings.number_of, declared.setting.Setting.Setting}
use Rattle.inf_settings.specs.{declared.settings.Settings.Settings}
use Rattle.inf_tables.specs.Tables.{more, no_tables, references}
use Rattle.inf_devices.specs.Files.{Sources}
use Rattle.inf_compilation.specs.{Actions.Compilation, Actions.begun_at, Actions.letters_chosen, Actions.unit_ended, Context.Context, Findings.Findings}
use Rattle.inf_reader.specs.Reading.{begun_stand}
use Rattle.inf_ending.specs.Ending.{first_place}
use Rattle.inf_session.specs.{Choices.Choices, Uses.AreKept}
use Rattle.inf_session.specs.Session.{State, context_of, has_ended, is_parted, part, rested, run, start, stepped, tables_full, turn}
use Rattle.inf_session.specs.Veneer.{in_text, is_wanted, most_texts, next_text, supplied_at, supplied_by, text_begun, text_front, text_read}
use Rattle.inf_session.specs.Veneer.{text_turns, veneer_text}
use Rattle.inf_limit_laws.specs.Laws.{AbbreviationsStay, CountsKeepToSettings, StepsKeepCounts, abbreviations_of}
use Rattle.inf_limit_laws.specs.Reached.{Here, IsBehind, IsReached, StatesComeBehind, Supplies, Turns}
use Rattle.inf_limit_laws.specs.Within.{AreFew, Before, IsKept, Steps, is_over, unfollowed}
use Rattle.inf_limit_laws.proofs.{Walked.act_steps, Walked.cut_at_steps, Walked.took_steps}
use Rattle.inf_limit_laws.proofs.Turns.{Rest, rested_rest, rested_steps, stepped_rest, stepped_steps, turn_rest, turn_steps}
use Rattle.inf_limit_laws.proofs.Ways.{begun_ends, none_full, steps_then, unit_ends}

both_behind : {sources : Sources} {o : Choices} {s t : State} → IsBehind sources o s t → {u : State} → IsBehind sources o t u
    → IsBehind sources o s u
both_behind first Here = first
both_behind first (Turns second) = Turns (both_behind first second)
both_behind first (Supplies number second) = Supplies number (both_behind first second)

either_behind : {sources : Sources} {o : Choices} {s : State} (b : Bool) (t u : State) → IsBehind sources o s t → IsBehind sources o s u
    → IsBehind sources o s (if b then t else u)
either_behind true t u f g = f
either_behind false t u f g = g

turns_behind : (sources : Sources) (o : Choices) (n : ℕ) (s : State) → IsBehind sources o s (run (limits_of o.settings) sources o n s)
turns_behind sources o zero s = Here
turns_behind sources o (suc n) s =
    let t = turn (limits_of o.settings) sources o s in
    either_behind (has_ended s) s (run (limits_of o.settings) sources o n t) Here (both_behind (Turns Here) (turns_behind sources o n t))

part_behind : (sources : Sources) (o : Choices) (n : ℕ) (s : State) → IsBehind sources o s (part (limits_of o.settings) sources o n s)
part_behind sources o zero s = Here
part_behind sources o (suc n) s =
    let t = turn (limits_of o.settings) sources o s in
    let rest = part (limits_of o.settings) sources o n t in
    either_behind (has_ended s) s (if is_parted t then t else rest) Here
    (either_behind (is_parted t) t rest (Turns Here) (both_behind (Turns Here) (part_behind sources o n t)))

at_behind : (sources : Sources) (o : Choices) (text : Option ℕ) (s : State)
    → IsBehind sources o s (supplied_at (limits_of o.settings) o text s)
at_behind sources o None s = Here
at_behind sources o (Some number) s = Supplies number Here

by_behind : (sources : Sources) (o : Choices) (left number : ℕ) (s : State)
    → IsBehind sources o s (supplied_by (limits_of o.settings) o left number s)
by_behind sources o zero number s = Here
by_behind sources o (suc left) number s =
    let wanted = is_wanted (suc number) s.work.output.names in
    let read = text_read (limits_of o.settings) o (suc number) s in
    let next = if wanted then read else s in
    either_behind s.work.report.counts.is_over s (supplied_by (limits_of o.settings) o left (suc number) next) Here
    (both_behind (either_behind wanted read s (Supplies (suc number) Here) Here) (by_behind sources o left (suc number) next))

pub states_come_behind : (sources : Sources) (o : Choices) → StatesComeBehind sources o
states_come_behind sources o = record {
  turns = turns_behind sources o;
  part = part_behind sources o;
  next = λ s. at_behind sources o (next_text s.work.report.counts.is_over s.passed s.work.output.names) s;
  rest = λ s. by_behind sources o (most_texts - s.passed) s.passed s;
  both = λ s t u first second. both_behind first second;
}

-- Lemmas about what holds from the start on

-- Expressions were within their setting before.
abbrev exact : Before
exact = unfollowed true

-- A state whose counts are kept, and whose references are few
pub record Holds (o : Choices) (s : State) : Type 0 where
  pub rest : Rest o s
  pub kept : is_over s.work ≡ false → IsKept (limits_of o.settings) (context_of o s) exact s.work
  pub few : is_over s.work ≡ false → AreFew (limits_of o.settings) s.work

holds_by : {o : Choices} {s t : State} → Holds o s → Steps (limits_of o.settings) (context_of o s) exact s.work t.work → Rest o t
    → Holds o t
holds_by {o} {s} {t} h f rest = record {
  rest = rest;
  kept = λ e. f.kept e (h.kept (f.on e));
  few = λ e. f.few e (h.kept (f.on e)) (h.few (f.on e));
}

turn_holds : {o : Choices} {s : State} (sources : Sources) → Holds o s → Holds o (turn (limits_of o.settings) sources o s)
turn_holds {o} {s} sources h =
    holds_by h (turn_steps (limits_of o.settings) sources o s h.rest.none) (turn_rest (limits_of o.settings) sources o s h.rest)

-- Supplied routines, behind the conditions of the source

either_holds : {o : Choices} (b : Bool) (s t : State) → Holds o s → Holds o t → Holds o (if b then s else t)
either_holds true s t h k = h
either_holds false s t h k = k

turns_hold : (o : Choices) (n : ℕ) (s : State) → Holds o s → Holds o (text_turns (limits_of o.settings) o n s)
turns_hold o zero s h = h
turns_hold o (suc n) s h =
    let t = stepped (limits_of o.settings) o s in
    either_holds (has_ended s) s (text_turns (limits_of o.settings) o n (rested t)) h
    (turns_hold o n (rested t)
    (holds_by h (steps_then (stepped_steps (limits_of o.settings) o s h.rest.none) (rested_steps t))
    (rested_rest t (stepped_rest (limits_of o.settings) o s h.rest))))

begun_holds : (o : Choices) (l : TextReader) (s : State) → Holds o s → Holds o (in_text l (text_begun s))
begun_holds o l s h = record {
  rest = record { none = refl; tame = tt; few = λ e. omega arith };
  kept = λ e. let k = h.kept e in ((λ x. max-le (k.0 x) (h.rest.few e)), k.1);
  few = h.few;
}

read_holds : (o : Choices) (n : ℕ) (s : State) → Holds o s → Holds o (text_read (limits_of o.settings) o n s)
read_holds o n s h =
    let t = turns_hold o (suc (length (veneer_text n))) (in_text (text_front o n s) (text_begun s))
    (begun_holds o (text_front o n s) s h) in
    record { rest = record { none = t.rest.none; tame = t.rest.tame; few = t.rest.few }; kept = t.kept; few = t.few }

behind_holds : {o : Choices} {s : State} (sources : Sources) → Holds o s → {t : State} → IsBehind sources o s t → Holds o t
behind_holds sources h Here = h
behind_holds sources h (Turns behind) = turn_holds sources (behind_holds sources h behind)
behind_holds {o} sources h (Supplies {t} number behind) = read_holds o number t (behind_holds sources h behind)

-- Lemmas about the start

no_references : references no_tables ≡ 0
unfolding more
no_references = refl

if_none : (b : Bool) (s : Setting) (others : Option Setting) → cond b (Some s) others ≡ None → others ≡ None
if_none true s others e = cc
if_none false s others e = e

has_room : (limit least : ℕ) (s : Setting) → cond (ltb limit least) (Some s) None ≡ None → least ≤ limit
has_room limit least s = go (ltb limit least) refl
  where
    go : (b : Bool) → ltb limit least ≡ b → cond b (Some s) None ≡ None → least ≤ limit
    go true e none = cc
    go false e none = ltb-false limit least e

four_fit : (settings : Settings) → tables_full settings ≡ None → 4 ≤ number_of Setting.References settings
four_fit settings none =
    let last = cond (ltb (number_of Setting.References settings) 4) (Some Setting.References) None in
    let low = cond (ltb (number_of Setting.LowStrings settings) 2) (Some Setting.LowStrings) last in
    let properties = cond (ltb (number_of Setting.PropertyTables settings) 30) (Some Setting.PropertyTables) low in
    has_room (number_of Setting.References settings) 4 Setting.References
    (if_none (ltb (number_of Setting.LowStrings settings) 2) Setting.LowStrings last
    (if_none (ltb (number_of Setting.PropertyTables settings) 30) Setting.PropertyTables low
    (if_none (ltb (number_of Setting.Objects settings) 4) Setting.Objects properties none)))

start_few : (sources : Sources) (o : Choices) (name : List ℕ) → is_over (start sources o name).work ≡ false
    → AreFew (limits_of o.settings) (start sources o name).work
start_few sources o name e = omega (
  arith,
  no_references,
  four_fit o.settings (none_full (start sources o name).nesting.names first_place
      (tables_full o.settings) (letters_chosen o.letters (begun_stand o.settings).work).report e),
)

start_holds : (sources : Sources) (o : Choices) (name : List ℕ) → Holds o (start sources o name)
start_holds sources o name = record {
  rest = record { none = refl; tame = tt; few = λ e. omega arith };
  kept = λ e. ((λ x. omega arith), (omega arith, record { begun = λ b. cc; room = λ p is free. cc; same = λ known is. cc }));
  few = start_few sources o name;
}

pub reached_holds : (sources : Sources) (o : Choices) (name : List ℕ) (s : State) → IsReached sources o name s → Holds o s
reached_holds sources o name s reached = behind_holds sources (start_holds sources o name) reached

-- All of it

more_within : (a b limit : ℕ) → a + b ≤ limit → more a b ≤ limit
unfolding more
more_within a b limit few = omega (arith, few)

within_by : (o : Choices) (s : State) (w : Compilation) → IsKept (limits_of o.settings) (context_of o s) exact w
    → AreFew (limits_of o.settings) w → s.conditions.most_tokens ≤ number_of Setting.ExpressionNodes o.settings
    → AreKept o.settings s.quoted s.conditions w
within_by o s w kept few tokens = (max-le (kept.0 refl) tokens, kept.1.0, more_within _ _ (number_of Setting.References o.settings) few)

pub reached_within : (sources : Sources) (o : Choices) (name : List ℕ) (s : State) → IsReached sources o name s → is_over s.work ≡ false
    → AreKept o.settings s.quoted s.conditions s.work
reached_within sources o name s reached e =
    let h = reached_holds sources o name s reached in within_by o s s.work (h.kept e) (h.few e) (h.rest.few e)

unit_few : (o : Choices) (s : State) → Holds o s → (context : Context) (first : Place) (has_last : Bool) (found : Findings)
    → is_over (unit_ended (limits_of o.settings) context first has_last found s.work) ≡ false
    → AreFew (limits_of o.settings) (unit_ended (limits_of o.settings) context first has_last found s.work)
unit_few o s h context first has_last found e =
    let f = unit_ends {limits = limits_of o.settings} {context = context} {was = unfollowed false} first has_last found s.work in
    let k = h.kept (f.on e) in
    f.few e ((λ x. cc), (k.1.0, record { begun = k.1.1.begun; room = k.1.1.room; same = λ known is. cc }))

pub counts_keep_to_settings : (sources : Sources) (o : Choices) → CountsKeepToSettings sources o
counts_keep_to_settings sources o = record {
  within = reached_within sources o;
  units = λ name s reached. unit_few o s (reached_holds sources o name s reached);
  ends = λ name s reached e.
      let f = begun_ends {limits = limits_of o.settings} {context = context_of o s} {was = exact} s.nesting.names first_place s.work in
      let h = reached_holds sources o name s reached in
      let k = h.kept (f.on e) in
      within_by o s (begun_at (limits_of o.settings) s.nesting.names first_place s.work) (f.kept e k) (f.few e k) (h.rest.few (f.on e));
}

pub steps_keep_counts : (limits : Limits) → StepsKeepCounts limits
steps_keep_counts limits = record {
  action = λ context was place a w none. act_steps place a w none;
  token = λ context was t w. took_steps t w;
  cut = λ context was place w. cut_at_steps place w;
  unit = λ context was first has_last found w. unit_ends first has_last found w;
  conditional = λ context was files first w. begun_ends files first w;
}

-- Lemmas about abbreviations that are followed from one compilation on

abbrev from : Compilation → Before
from w = record { is_exact = false; abbreviations = Some (abbreviations_of w) }

stay_by : {limits : Limits} {context : Context} {w v : Compilation} → Steps limits context (from w) w v
    → IsKept limits context (unfollowed false) w → is_over v ≡ false → abbreviations_of v ≡ abbreviations_of w
stay_by {limits} {context} {w} {v} f h e = (f.kept e kept).1.1.same (abbreviations_of w) refl
  where
    kept : IsKept limits context (from w) w
    kept = (h.0, (h.1.0, record { begun = h.1.1.begun; room = h.1.1.room; same = λ known is. cc }))

pub abbreviations_stay : (limits : Limits) → AbbreviationsStay limits
abbreviations_stay limits = record {
  action = λ context place a w other. stay_by {context = context} (act_steps place a w (λ is. absurd (other is)));
  token = λ context t w. stay_by {context = context} (took_steps t w);
  cut = λ context place w. stay_by {context = context} (cut_at_steps place w);
}
