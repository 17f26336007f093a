-- The calls for expressions, conditions and constants: what they lay and answer is by the one expression that they read.
use Rattle.std.proofs.Common.{◌≡◌, ℕ, suc, List, [], ◌∷◌, length, nat_lt, Bool, true, false, Option, Some, Ok, Err, refl, sym, ◌∙◌, ap}
use Rattle.std.proofs.Common.{if◌then◌else◌}
use Rattle.inf_settings.specs.Bounds.{Limits}
use Rattle.inf_devices.specs.Files.{Sources}
use Rattle.inf_machine.specs.Grammar.{IsOneOf, first, later}
use Rattle.inf_expressions.specs.Sources.{Source}
use Rattle.inf_unit.specs.Units.{begun}
use Rattle.inf_compilation.specs.Actions.{Compilation}
use Rattle.inf_alone.specs.declared.ending.{Ended.Ended, Told.Told, Use.Use}
use Rattle.inf_session.specs.{Choices.Choices, Session.State, Session.context_of, Session.part}
use Rattle.inf_ending.specs.Ending.{first_place}
use Rattle.inf_expression_laws.specs.{Gathered.AreSeen, Precedence.assignments, Precedence.commas}
use Rattle.inf_statement_laws.specs.{Laid.next_comes, Laid.passed, Readings.Seen}
use Rattle.inf_language.specs.Texts.{atoms_of, tokens_of}
use Rattle.inf_trees.specs.Trees.{with_value}
use Rattle.inf_program.specs.{Turns.grouped, definition.Steps.Step}
use Rattle.inf_turn_laws.proofs.Marks.{steps_seen}
use Rattle.inf_calls.specs.Calls.{Answered, alone_constant, alone_expression, and_then, answering, begun_with_rule}
use Rattle.inf_calls.specs.{Calls.constant_answer, Calls.constant_ended, Calls.expression_answer, Calls.expression_ended, Calls.tell}
use Rattle.inf_calls.specs.{Calls.unheld, Calls.waiting, Calls.whole, declared.faults.UnitFault.UnitFault}
use Rattle.inf_call_laws.specs.Laid.{ExpressionsAreLaidAlone, HasOne, IsOne, IsReadWhole, Kind, LaysOne, ReadsOne, TellsOne}
use Rattle.inf_call_laws.specs.Laid.{expression_by, kinds, unless_over, value_by}
use Rattle.inf_call_laws.specs.Texts.{all_merged, alone_rules, alone_stepped, alone_steps, alone_work, text_front, text_seen}
use Rattle.inf_call_laws.proofs.{Ends.constants_so, Ends.ends_so, OneRead.texts_are_one, Parts.parts_leave_work}
use Rattle.inf_call_laws.proofs.Texts.{turns_act}

-- Lemmas about the tokens of turns

all_seen : (seen : List Seen) → AreSeen (atoms_of seen) (tokens_of seen)
    → AreSeen (atoms_of (all_merged seen)) (tokens_of (all_merged seen))
all_seen [] are = tt
all_seen (s ∷ seen) are = (are.0, all_seen seen are.1)

text_is_seen : (steps : List Step) → AreSeen (atoms_of (text_seen steps)) (tokens_of (text_seen steps))
text_is_seen steps = all_seen (grouped steps).seen (steps_seen steps)

reads_one : (limits : Limits) (sources : Sources) (o : Choices) (kind : Kind) → IsOneOf kind kinds → IsOneOf kind.rule alone_rules
    → (n : ℕ) (s : State) → IsReadWhole limits sources o kind.rule n s → ReadsOne limits sources o kind.rule kind.level n s
reads_one limits sources o kind is alone n s h =
    let steps = alone_steps limits sources o kind.rule n s in
    let now = alone_work limits sources o kind.rule n s in
    let before : Compilation = passed (text_front steps) s.work in
    let one : IsOne limits (context_of o s) kind.level h.events (text_seen steps) before =
    texts_are_one limits kind is (context_of o s) (text_seen steps) h.events h.is_text (text_is_seen steps) h.few before in
    let acts = turns_act limits kind.rule alone sources o n s h.events h.fresh h.goes h.kept h.is_text in
    let left : record (alone_stepped limits sources o kind.rule n s).work { report = now.report } ≡ now =
    parts_leave_work limits kind.rule sources o n s h.not_ended h.goes h.plain in
    record {
      tokens = one.tokens;
      semicolon = one.semicolon;
      same = one.same;
      value = one.value;
      written = one.written;
      reads = ap next_comes (sym left) ∙ ap (λ (w : Compilation). record w { report = now.report }) (acts ∙ one.does);
    }

-- Lemmas about the unit behind the turns of a text

has_one : (limits : Limits) (sources : Sources) (o : Choices) (rule level n : ℕ) (s : State)
    → (one : ReadsOne limits sources o rule level n s) → HasOne one.value (unheld (alone_work limits sources o rule n s)).unit
has_one limits sources o rule level n s one = record {
  level = level;
  from = length (begun s.work.unit).tokens;
  leaf = 0;
  atoms = atoms_of one.tokens;
  written = one.written;
  symbols = ap (λ (w : Compilation). w.unit.gathering.symbols) one.reads;
}

-- behind them a unit waits for its end
abbrev Waits : Compilation → Type 0
Waits w = (count : ℕ) × (w.unit.held ≡ Some count)

waits : (limits : Limits) (sources : Sources) (o : Choices) (rule level n : ℕ) (s : State) → ReadsOne limits sources o rule level n s
    → Waits (alone_work limits sources o rule n s)
waits limits sources o rule level n s one =
    (length (with_value (tokens_of one.tokens) one.value (begun s.work.unit)).tokens, ap (λ (w : Compilation). w.unit.held) one.reads)

-- Lemmas about the answers

-- Unless a fatal message came, a call goes on with a unit that waits.
goes_on : {T : Type 0} (next : State → Answered T) (s : State) (is_over more : Bool) → Waits s.work
    → and_then (and_then (s, if is_over then Err UnitFault.Fatal else Ok more) whole) (λ _. next)
    ≡ (if is_over then (s, Err UnitFault.Fatal) else next s)
goes_on next s true more w = refl
goes_on next s false more w = ap (λ (held : Option ℕ). and_then (s, waiting held) (λ _. next)) w.1

expression_goes : (limits : Limits) (o : Choices) (u : Use) (value : Source) (s : State) → HasOne value (unheld s.work).unit
    → expression_ended limits o u s ≡ expression_by limits o u value s
expression_goes limits o u value s one =
    ap (λ (e : Compilation × Ended). and_then (tell (record s { work = e.0 })) (answering (expression_answer e.1)))
    (ends_so limits (context_of o s) first_place u value (unheld s.work) one)

constant_goes : (limits : Limits) (o : Choices) (value : Source) (s : State) → HasOne value (unheld s.work).unit
    → constant_ended limits o s ≡ value_by limits o value s
constant_goes limits o value s one =
    ap (λ (t : Compilation × Told). and_then (tell (record s { work = t.0 })) (answering (constant_answer t.1)))
    (constants_so limits (context_of o s) first_place value (unheld s.work) one)

unless_same : {T : Type 0} (s : State) (x y : Answered T) → x ≡ y
    → (if s.work.report.counts.is_over then (s, Err UnitFault.Fatal) else x) ≡ unless_over s y
unless_same s x y same = ap (unless_over s) same

expression_calls : (limits : Limits) (sources : Sources) (o : Choices) (n : ℕ) (s : State)
    → IsReadWhole limits sources o alone_expression n s → LaysOne limits sources o n s
expression_calls limits sources o n s h =
    let one : ReadsOne limits sources o alone_expression commas n s =
    reads_one limits sources o (record { rule = alone_expression; level = commas }) first first n s h in
    let b = begun_with_rule alone_expression s in
    let r = part limits sources o (suc n) b in
    record {
      one = one;
      answers = λ u. goes_on (expression_ended limits o u) r r.work.report.counts.is_over
          (nat_lt b.work.report.counts.errors r.work.report.counts.errors) (waits limits sources o alone_expression commas n s one)
          ∙ unless_same r (expression_ended limits o u r) (expression_by limits o u one.value r)
          (expression_goes limits o u one.value r (has_one limits sources o alone_expression commas n s one));
    }

constant_calls : (limits : Limits) (sources : Sources) (o : Choices) (n : ℕ) (s : State)
    → IsReadWhole limits sources o alone_constant n s → TellsOne limits sources o n s
constant_calls limits sources o n s h =
    let one : ReadsOne limits sources o alone_constant assignments n s =
    reads_one limits sources o (record { rule = alone_constant; level = assignments }) (later first) (later first) n s h in
    let b = begun_with_rule alone_constant s in
    let r = part limits sources o (suc n) b in
    record {
      one = one;
      answers = goes_on (constant_ended limits o) r r.work.report.counts.is_over
          (nat_lt b.work.report.counts.errors r.work.report.counts.errors) (waits limits sources o alone_constant assignments n s one)
          ∙ unless_same r (constant_ended limits o r) (value_by limits o one.value r)
          (constant_goes limits o one.value r (has_one limits sources o alone_constant assignments n s one));
    }

pub expressions_are_laid_alone : (limits : Limits) → ExpressionsAreLaidAlone limits
expressions_are_laid_alone limits = record {
  texts = texts_are_one limits;
  ends = λ context place u value w one. ends_so limits context place u value w one;
  constants = λ context place value w one. constants_so limits context place value w one;
  expressions_called = expression_calls limits;
  constants_called = constant_calls limits;
}
