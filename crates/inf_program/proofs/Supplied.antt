-- The supplied routines: each text is a program, and behind all of them the ending is the one that turns give.
use Rattle.std.proofs.Common.{◌≡◌, ℕ, zero, suc, ◌-◌, ◌<◌, ◌≤◌, max, List, [], ◌++◌, length, true, false, Option, Some, None, refl, sym}
use Rattle.std.proofs.Common.{◌∙◌, ap, append-nil, arith, subst}
use Rattle.inf_settings.specs.Bounds.{Limits}
use Rattle.inf_devices.specs.Files.{Sources}
use Rattle.inf_sources.specs.Inclusions.{Nesting}
use Rattle.inf_unit.specs.Messages.{flushed, veneer_file}
use Rattle.inf_compilation.specs.Actions.{Compilation}
use Rattle.inf_conditionals.specs.Open.{Conditions, no_conditions}
use Rattle.inf_conditional_sides.proofs.Same.{sides_are_judged}
use Rattle.inf_reader.specs.{Reading.between, declared.recovery.Recovery.Recovery}
use Rattle.inf_session.specs.{Choices.Choices, Choices.most_quoted, Session.State as TurnState, Session.has_ended as turn_has_ended}
use Rattle.inf_session.specs.{Session.told_out, Veneer.in_text, Veneer.most_texts, Veneer.next_text, Veneer.supplied, Veneer.supplied_at}
use Rattle.inf_session.specs.{Veneer.text_begun, Veneer.text_front, Veneer.text_read, Veneer.text_turns, Veneer.veneer_text}
use Rattle.inf_ending.specs.Ending.{Outcome, finished}
use Rattle.inf_session.proofs.Supplying.{next_in, next_within, supplied_more, supplied_none}
use Rattle.inf_compile.specs.Outcome.{ending_of}
use Rattle.inf_program.specs.{BySides.with_conditions, Programs.EndsAs, Readings.ProgramOf, Readings.TextsArePrograms, SideTurns.side_run}
use Rattle.inf_program.specs.{definition.NextToken.afresh, definition.Program.IsProgram, definition.States.State}
use Rattle.inf_program.specs.{definition.States.has_ended, definition.Written.ending}
use Rattle.inf_program.specs.definition.Supplied.{AreSupplied, NoMore, Supplies, next_behind, text_end, text_start}
use Rattle.inf_program.proofs.{Readings.regular_readings_are_programs, RegularTurns.text_regular, SideStates.Matches}
use Rattle.inf_program.proofs.Programs.{same_end, turns_do_programs}
use Rattle.inf_program.proofs.TextTurns.{TextRan, beside, texts_alike, texts_beside, texts_end}

-- Lemmas about one text

-- the conditionals at the front of a text, of which none is open
abbrev front_conditions : ℕ → Conditions
front_conditions declared = record no_conditions { declared = declared }

front_matches : (o : Choices) (number : ℕ) (s : State) → Matches (front_conditions s.work.output.names.declared) (text_start o number s)
front_matches o number s = record {
  agree = record {
    pending = sides_are_judged.start.pending;
    conditions = sides_are_judged.start.conditions;
    sign = sides_are_judged.start.sign;
    sides = sides_are_judged.start.sides;
    fronts = sides_are_judged.start.fronts;
  };
  declared = refl;
  none_said = refl;
  settled = refl;
  seated = tt;
  levels = tt;
}

-- as many turns as a text has bytes, and one more
abbrev text_length : ℕ → ℕ
text_length number = suc (length (veneer_text number))

-- the state of turns at the front of a text
abbrev front_turn : Choices → ℕ → ℕ → State → TurnState
front_turn o number quoted s = with_conditions (front_conditions s.work.output.names.declared) quoted (text_start o number s)

text_ran : (limits : Limits) (sources : Sources) (o : Choices) (number quoted : ℕ) (s : State)
    → TextRan (text_turns limits o (text_length number) (front_turn o number quoted s))
    (side_run limits sources o (text_length number) (text_start o number s))
text_ran limits sources o number quoted s =
    texts_alike limits sources o (text_length number) (front_conditions s.work.output.names.declared) quoted (text_start o number s) refl refl
    (λ going. front_matches o number s)

less_than_next : (n : ℕ) → n < suc n
less_than_next n = omega arith

text_over : (limits : Limits) (sources : Sources) (o : Choices) (number : ℕ) (s : State)
    → has_ended (side_run limits sources o (text_length number) (text_start o number s)) ≡ true
text_over limits sources o number s = ap turn_has_ended (sym (text_ran limits sources o number 0 s).same)
    ∙ texts_end limits o (text_length number) (front_turn o number 0 s) (less_than_next (length (veneer_text number)))

text_program : (limits : Limits) (sources : Sources) (o : Choices) (number : ℕ) (s : State)
    → (final : State) × IsProgram limits sources o final (text_start o number s)
text_program limits sources o number s =
    let p : ProgramOf limits sources o (text_length number) (text_start o number s) =
    regular_readings_are_programs limits sources o (text_length number) (text_start o number s) refl
    (text_regular limits sources o (text_length number) (text_start o number s) refl) (text_over limits sources o number s) in
    (p.final, p.is_program)

-- Lemmas about all texts

supplied_from : (limits : Limits) (sources : Sources) (o : Choices) (number : ℕ) (s : State) (next : Option ℕ) → next_behind number s ≡ next
    → ((m : ℕ) (t : State) → next ≡ Some m → (end : State) × AreSupplied limits sources o end m t)
    → (end : State) × AreSupplied limits sources o end number s
supplied_from limits sources o number s None is later = (s, NoMore is refl)
supplied_from limits sources o number s (Some m) is later =
    let p : (final : State) × IsProgram limits sources o final (text_start o m s) = text_program limits sources o m s in
    let rest : (end : State) × AreSupplied limits sources o end m (text_end s p.0) = later m (text_end s p.0) refl in
    (rest.0, Supplies is p.1 rest.1)

supplied_within : (limits : Limits) (sources : Sources) (o : Choices) (left number : ℕ) (s : State) → most_texts - number ≤ left
    → (end : State) × AreSupplied limits sources o end number s
supplied_within limits sources o zero number s few = supplied_from limits sources o number s (next_behind number s) refl
    (λ m t is. let at = next_within s.work.report.counts.is_over number m s.work.output.names is in absurd (omega (arith, few, at.0, at.1)))
supplied_within limits sources o (suc left) number s few = supplied_from limits sources o number s (next_behind number s) refl
    (λ m t is. let at = next_within s.work.report.counts.is_over number m s.work.output.names is in
    supplied_within limits sources o left m t (omega (arith, few, at.0, at.1)))

pub texts_are_programs : (limits : Limits) → TextsArePrograms limits
texts_are_programs limits = record {
  regular = λ sources o number n s. text_regular limits sources o n (text_start o number s) refl;
  programs = text_program limits;
  all = λ sources o number s. supplied_within limits sources o most_texts number s (omega arith);
}

-- Lemmas about the turns of a text

-- A state of turns, behind which the routines behind a number are still to be read, has the files, the compilation and the messages of a state,
-- which were all written.
pub record Speaks (number : ℕ) (v : TurnState) (s : State) : Type 0 where
  pub nesting : v.nesting ≡ s.nesting
  pub work : v.work ≡ record s.work { report = flushed s.work.report }
  pub told : v.told ≡ s.work.report.lines
  pub most : v.conditions.most_tokens ≡ s.most_tokens
  pub passed : v.passed ≡ number

-- the state of turns at the front of a text, by what it depends on
abbrev begun_as : Choices → ℕ → Nesting → Compilation → ℕ → List ℕ → ℕ → ℕ → TurnState
begun_as o number nesting w most told quoted passed = record {
  nesting = record nesting {
    cursor = record {
      rest = veneer_text number;
      lines = record { line = number; after_return = false };
      file = veneer_file;
      set = nesting.cursor.set;
      limit = most_quoted o;
    };
  };
  conditions = front_conditions w.output.names.declared;
  reading = between Recovery.Reads;
  work = record w { most_tokens = max w.most_tokens most; is_system = false };
  told = told;
  is_over = false;
  quoted = quoted;
  passed = passed;
}

-- where no line is still to be written
abbrev flushed_work : Compilation → Compilation
flushed_work w = record w { report = flushed w.report }

abbrev flushed_state : State → State
flushed_state s = record s { work = flushed_work s.work }

begun_is : (o : Choices) (n number : ℕ) (v : TurnState) (s : State) → Speaks n v s → in_text (text_front o number v) (text_begun v)
    ≡ beside [] s.work.report.lines v.passed (front_turn o number v.quoted (flushed_state s))
begun_is o n number v s p = ap (λ (x : Nesting). begun_as o number x v.work v.conditions.most_tokens v.told v.quoted v.passed) p.nesting
    ∙ (ap (λ (x : Compilation). begun_as o number s.nesting x v.conditions.most_tokens v.told v.quoted v.passed) p.work
    ∙ (ap (λ (x : ℕ). begun_as o number s.nesting (flushed_work s.work) x v.told v.quoted v.passed) p.most
    ∙ ap (λ (x : List ℕ). begun_as o number s.nesting (flushed_work s.work) s.most_tokens x v.quoted v.passed) p.told))

-- the state at the front of a text with these lines still to be written
abbrev lined : Choices → ℕ → ℕ → State → List ℕ → TurnState
lined o number quoted s lines =
    front_turn o number quoted (record s { work = record s.work { report = record s.work.report { lines = lines } } })

front_is : (o : Choices) (number quoted : ℕ) (s : State)
    → beside s.work.report.lines [] 0 (front_turn o number quoted (flushed_state s)) ≡ front_turn o number quoted s
front_is o number quoted s = ap (lined o number quoted s) (append-nil s.work.report.lines)

text_speaks : (limits : Limits) (sources : Sources) (o : Choices) (n number : ℕ) (v : TurnState) (s final : State) → Speaks n v s
    → IsProgram limits sources o final (text_start o number s) → Speaks number (text_read limits o number v) (text_end s final)
text_speaks limits sources o n number v s final p program =
    let k : ℕ = text_length number in
    let lines : List ℕ = s.work.report.lines in
    let first : State = text_start o number s in
    let z : TurnState = front_turn o number v.quoted (flushed_state s) in
    let t : TurnState = text_turns limits o k z in
    let x : State = side_run limits sources o k first in
    let ran : TextRan (text_turns limits o k (front_turn o number v.quoted s)) x = text_ran limits sources o number v.quoted s in
    let e : EndsAs limits sources o final first = turns_do_programs limits sources o final first program in
    let same : afresh x ≡ afresh final =
    ap afresh (same_end limits sources o k e.turns first (text_over limits sources o number s) e.ends) ∙ e.same in
    let read : text_turns limits o k (in_text (text_front o number v) (text_begun v)) ≡ beside [] lines v.passed t =
    ap (text_turns limits o k) (begun_is o n number v s p) ∙ texts_beside limits o k [] lines v.passed z in
    let by_sides : beside lines [] 0 t ≡ with_conditions ran.conditions ran.quoted x =
    sym (texts_beside limits o k lines [] 0 z) ∙ (ap (text_turns limits o k) (front_is o number v.quoted s) ∙ ran.same) in
    record {
      nesting = p.nesting;
      work = ap (λ (y : TurnState). flushed_work y.work) read
          ∙ (ap (λ (y : TurnState). flushed_work y.work) by_sides ∙ ap (λ (y : State). flushed_work y.work) same);
      told = ap (λ (y : TurnState). y.told ++ y.work.report.lines) read
          ∙ (ap (λ (y : TurnState). y.work.report.lines) by_sides ∙ ap (λ (y : State). y.work.report.lines) same);
      most = ap (λ (y : TurnState). y.conditions.most_tokens) read
          ∙ (ap (λ (y : TurnState). y.conditions.most_tokens) by_sides ∙ (ran.most ∙ ap (λ (y : State). y.most_tokens) same));
      passed = refl;
    }

-- Lemmas about the ending

abbrev ended_with : Limits → List ℕ → Nesting → Compilation → List ℕ → Outcome
ended_with limits serial nesting w told =
    let e = finished limits serial nesting.names w in record e { messages = told ++ e.messages }

ending_is : (limits : Limits) (serial : List ℕ) (number : ℕ) (v : TurnState) (s : State) → Speaks number v s
    → ended_with limits serial v.nesting v.work v.told ≡ ending limits serial s
ending_is limits serial number v s p = ap (λ (x : Nesting). ended_with limits serial x v.work v.told) p.nesting
    ∙ (ap (λ (x : Compilation). ended_with limits serial s.nesting x v.told) p.work
    ∙ ap (λ (x : List ℕ). ended_with limits serial s.nesting (flushed_work s.work) x) p.told)

next_is : (number : ℕ) (v : TurnState) (s : State) → Speaks number v s → next_in v ≡ next_behind number s
next_is number v s p = ap (λ (x : Compilation). next_text x.report.counts.is_over v.passed x.output.names) p.work
    ∙ ap (λ (x : ℕ). next_behind x s) p.passed

pub supplied_ending : (limits : Limits) (sources : Sources) (o : Choices) (serial : List ℕ) (end : State) (number : ℕ) (s : State)
    → AreSupplied limits sources o end number s → (v : TurnState) → Speaks number v s
    → ending_of limits o serial v ≡ ending limits serial end
supplied_ending limits sources o serial end number s (NoMore none same) v p =
    ap (λ (x : TurnState). ended_with limits serial x.nesting x.work x.told) (supplied_none limits o v (next_is number v s p ∙ none))
    ∙ (ending_is limits serial number v s p ∙ ap (ending limits serial) same)
supplied_ending limits sources o serial end number s (Supplies {next} {final} is program rest) v p =
    let read : TurnState = text_read limits o next v in
    let more : supplied limits o read ≡ supplied limits o v =
    ap (λ (x : Option ℕ). supplied limits o (supplied_at limits o x v)) (sym (next_is number v s p ∙ is)) ∙ supplied_more limits o v in
    ap (λ (x : TurnState). ended_with limits serial x.nesting x.work x.told) (sym more)
    ∙ supplied_ending limits sources o serial end next (text_end s final) rest read
    (text_speaks limits sources o number next v s final p program)
