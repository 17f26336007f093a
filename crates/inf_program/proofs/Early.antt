-- Reading that ends before the first token: the report is over, and its lines are all messages of the outcome, whether they were written or
-- are still to be.
use Rattle.std.proofs.Common.{◌≡◌, ℕ, zero, suc, ◌+◌, ◌-◌, List, [], ◌∷◌, ◌++◌, ◌&&◌, ◌||◌, ◌==◌, Bool, true, false, Option, Some, None}
use Rattle.std.proofs.Common.{refl, sym, ◌∙◌, ap, append-nil, if◌then◌else◌, not}
use Rattle.inf_settings.specs.{Bounds.Limits, declared.setting.Setting.Setting}
use Rattle.inf_scanner.specs.declared.tokens.Place.{Place}
use Rattle.inf_devices.specs.Files.{Sources}
use Rattle.inf_names.specs.Symbols.{IsDeclared, IsUsed, Named, Standing}
use Rattle.inf_output.specs.Output.{Out, begun, full}
use Rattle.inf_report.specs.{Reports.Counts, Reports.closing, Reports.is_last, declared.messages.Kind.Kind}
use Rattle.inf_report.specs.Messages.{Exceeded, Location, Message, NoMain, TooManyErrors, Undeclared, line_of}
use Rattle.inf_unit.specs.Messages.{FileNames, Reported, location, with_error, with_full}
use Rattle.inf_unit.specs.Names.{main_of, with_all_undeclared, with_undeclared}
use Rattle.inf_compilation.specs.Actions.{Compilation, begun_at}
use Rattle.inf_session.specs.{Choices.Choices, Session.State, Session.has_ended, Session.start, Session.told_out, Veneer.is_wanted}
use Rattle.inf_session.specs.{Veneer.most_texts, Veneer.supplied_by, Veneer.text_read}
use Rattle.inf_ending.specs.Ending.{Outcome, begun as outcome_begun, finished, first_line, laid, refused, told_of, first_place}
use Rattle.inf_ending.specs.declared.compiled.Status.{Status}
use Rattle.inf_compile.specs.Outcome.{ending_of}

-- Lemmas about a report that is over

abbrev IsOver : Reported → Type 0
IsOver r = r.counts.is_over ≡ true

-- the report with these lines more and these counts, unless it is over
abbrev unless_over : Bool → List ℕ → Counts → Reported → Reported
unless_over is_over more counted r = record {
  lines = r.lines ++ (if is_over then [] else more);
  counts = if is_over then r.counts else counted;
}

over_stays : (more : List ℕ) (counted : Counts) (r : Reported) → IsOver r → unless_over r.counts.is_over more counted r ≡ r
over_stays more counted r over =
    ap (λ (b : Bool). unless_over b more counted r) over ∙ ap (λ (lines : List ℕ). record r { lines = lines }) (append-nil r.lines)

error_stays : (at unit : Location) (m : Message) (r : Reported) → IsOver r → with_error at unit m r ≡ r
error_stays at unit m r over =
    over_stays (if is_last r.counts then line_of Kind.Error at m ++ line_of Kind.Fatal unit TooManyErrors else line_of Kind.Error at m)
    (record r.counts { errors = r.counts.errors + 1; is_over = is_last r.counts }) r over

full_stays : (files : FileNames) (unit : Place) (limit : Option Setting) (r : Reported) → IsOver r → with_full files unit limit r ≡ r
full_stays files unit None r over = refl
full_stays files unit (Some s) r over =
    over_stays (line_of Kind.Fatal (location files unit) (Exceeded s)) (record r.counts { is_over = true }) r over

undeclared_stays : (files : FileNames) (x : Standing Place) (r : Reported) → IsOver r → with_undeclared files x r ≡ r
undeclared_stays files (IsDeclared number m place) r over = refl
undeclared_stays files (IsUsed spelling place) r over =
    error_stays (location files place) (location files place) (Undeclared spelling) r over

all_undeclared_stay : (files : FileNames) (names : List (Named Place)) (r : Reported) → IsOver r → with_all_undeclared files names r ≡ r
all_undeclared_stay files [] r over = refl
all_undeclared_stay files (n ∷ names) r over =
    ap (with_all_undeclared files names) (undeclared_stays files n.standing r over) ∙ all_undeclared_stay files names r over

-- Lemmas about outcomes

-- the outcome with lines alone
abbrev with_messages : List ℕ → Outcome
with_messages lines = record { messages = lines; story = None; status = Status.Errors }

refused_over : (r : Reported) → IsOver r → refused r ≡ with_messages r.lines
refused_over r over = ap (λ (b : Bool). with_messages (r.lines ++ (if b then [] else closing r.counts.errors r.counts.warnings))) over
    ∙ ap with_messages (append-nil r.lines)

begun_over : (serial : List ℕ) (w : Compilation) (files : FileNames) (o : Out) (r : Reported) (main : Option ℕ) → IsOver r
    → outcome_begun (told_of serial w) files o r main ≡ with_messages r.lines
begun_over serial w files o r None over = ap refused (error_stays (first_line files) (first_line files) NoMain r over) ∙ refused_over r over
begun_over serial w files o r (Some main) over =
    ap (λ (b : Bool). if not b && (r.counts.errors == 0) then laid (told_of serial w) files main o r else refused r) over ∙ refused_over r over

finished_over : (limits : Limits) (serial : List ℕ) (files : FileNames) (w : Compilation) → IsOver w.report
    → finished limits serial files w ≡ with_messages w.report.lines
finished_over limits serial files w over =
    let o : Out = begun limits w.output in
    let x : Compilation = begun_at limits files first_place w in
    let same : with_all_undeclared files o.names.names x.report ≡ w.report =
    ap (with_all_undeclared files o.names.names) (full_stays files first_place (full limits o) w.report over)
    ∙ all_undeclared_stay files o.names.names w.report over in
    ap (λ (r : Reported). outcome_begun (told_of serial x) files o r (main_of o.names)) same
    ∙ begun_over serial x files o w.report (main_of o.names) over

-- Lemmas about states

supplied_over : (limits : Limits) (o : Choices) (left n : ℕ) (s : State) → IsOver s.work.report → supplied_by limits o left n s ≡ s
supplied_over limits o zero n s over = refl
supplied_over limits o (suc left) n s over = ap (λ (b : Bool). if b then s else supplied_by limits o left (suc n)
    (if is_wanted (suc n) s.work.output.names then text_read limits o (suc n) s else s)) over

abbrev ended_with : Limits → List ℕ → State → Outcome
ended_with limits serial v =
    let e = finished limits serial v.nesting.names v.work in record e { messages = v.told ++ e.messages }

ending_over : (limits : Limits) (o : Choices) (serial : List ℕ) (s : State) → IsOver s.work.report
    → ending_of limits o serial s ≡ with_messages (s.told ++ s.work.report.lines)
ending_over limits o serial s over = ap (ended_with limits serial) (supplied_over limits o (most_texts - s.passed) s.passed s over)
    ∙ ap (λ (e : Outcome). record e { messages = s.told ++ e.messages }) (finished_over limits serial s.nesting.names s.work over)

-- Writing the messages makes no difference where the report is over.
pub ending_told : (limits : Limits) (o : Choices) (serial : List ℕ) (s : State) → s.work.report.counts.is_over ≡ true
    → ending_of limits o serial (told_out s) ≡ ending_of limits o serial s
ending_told limits o serial s over = ending_over limits o serial (told_out s) over
    ∙ (ap with_messages (append-nil (s.told ++ s.work.report.lines)) ∙ sym (ending_over limits o serial s over))

-- Reading ends before the first token by a fatal message alone.
pub start_over : (sources : Sources) (o : Choices) (name : List ℕ) → has_ended (start sources o name) ≡ true
    → (start sources o name).work.report.counts.is_over ≡ true
start_over sources o name e = left_of (start sources o name).work.report.counts.is_over e
  where
    left_of : (b : Bool) → (b || false) ≡ true → b ≡ true
    left_of true q = refl
    left_of false q = q
