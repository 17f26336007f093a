-- Expressions and constants that are read by themselves: the tokens before the semicolon are one expression, and what a call lays and
-- answers is by this one.
use Rattle.std.specs.Prelude.{◌≡◌, ℕ, suc, ◌<◌, List, [], ◌∷◌, ◌++◌, length, false, Option, Some, None, Err}
use Rattle.std.specs.Prelude.{if◌then◌else◌}
use Rattle.inf_area.specs.declared.targets.Value.{Value}
use Rattle.inf_settings.specs.Bounds.{Limits}
use Rattle.inf_devices.specs.Files.{Sources}
use Rattle.inf_scanner.specs.declared.{tokens.Mark.Mark, tokens.Place.Place, tokens.TokenKind.TokenKind}
use Rattle.inf_machine.specs.{Grammar.Event, Grammar.IsOneOf, Grammar.IsText, declared.symbols.Symbol.Symbol}
use Rattle.inf_syntax.specs.declared.actions.Action.{Action}
use Rattle.inf_expressions.specs.{Judging.root_finding, Questions.constant_of, Rooted.seen, Sources.Source, Sources.found_in, Sources.meant}
use Rattle.inf_expressions.specs.declared.{findings.Finding.Finding, operators.Operand.Operand, units.Wanted.Wanted}
use Rattle.inf_grammar.specs.Language.{grammar}
use Rattle.inf_output.specs.declared.operands.Simple.{Simple}
use Rattle.inf_templates.specs.Meaning.{meaning}
use Rattle.inf_unit.specs.{Tokens.SourceToken, declared.roles.Note.Note}
use Rattle.inf_unit.specs.Units.{Unit as UnitAtHand, begun, noted, order, own_place, taken}
use Rattle.inf_constructs.specs.Roots.{tree_in}
use Rattle.inf_compilation.specs.{Context.Context, Findings.nothing_found}
use Rattle.inf_compilation.specs.Actions.{Compilation, operands_of, passed as passed_over, settled_of, unit_ended}
use Rattle.inf_named_values.specs.Values.{value_or}
use Rattle.inf_alone.specs.Ending.{alone_ended, code_for, constant_alone, leaves_noted, left_by, refused}
use Rattle.inf_alone.specs.declared.ending.{Ended.Ended, Told.Told, Use.Use}
use Rattle.inf_reader.specs.{Reading.between, declared.recovery.Recovery.Recovery}
use Rattle.inf_session.specs.{Choices.Choices, Session.State, Session.context_of, Session.has_ended, Session.part}
use Rattle.inf_ending.specs.Ending.{first_place}
use Rattle.inf_expression_laws.specs.{Gathered.AreSeen, Gathered.symbols_of, Precedence.Written, Precedence.assignments, Precedence.commas}
use Rattle.inf_statement_laws.specs.{Laid.next_comes, Laid.passed, Laid.run, Readings.Seen}
use Rattle.inf_language.specs.Texts.{atoms_of, happenings_of, tokens_of}
use Rattle.inf_trees.specs.Trees.{tokens_told, with_outer, with_value}
use Rattle.inf_program.specs.definition.Steps.{AllKept}
use Rattle.inf_calls.specs.Calls.{Answered, alone_constant, alone_expression, and_then, answering, begun_with_rule, constant}
use Rattle.inf_calls.specs.{Calls.constant_answer, Calls.expression_answer, Calls.tell, Calls.unheld, Calls.used_so}
use Rattle.inf_calls.specs.declared.faults.UnitFault.{UnitFault}
use Rattle.inf_call_laws.specs.Texts.{AllGoOn, IsPlain, alone_steps, alone_stepped, alone_work, text_front, text_seen}

-- Definitions of the tokens

-- a rule of a text that is one expression, and the level at which its operators bind at least
pub record Kind : Type 0 where
  pub rule : ℕ
  pub level : ℕ

abbrev pub kinds : List Kind
kinds = record { rule = alone_expression; level = commas } ∷ record { rule = alone_constant; level = assignments } ∷ []

-- the unit that waits for its end behind an expression and a semicolon
abbrev pub waiting_with : List SourceToken → Source → SourceToken → UnitAtHand → UnitAtHand
waiting_with tokens value semicolon u = taken semicolon (noted Note.Hold (with_value tokens value (begun u)))

-- The work behind such a text: the unit has the expression, the tokens were reported one by one, and conditional directives between them
-- had their effect. No code was laid for them.
abbrev pub text_read : Context → List Seen → Source → Seen → Compilation → Compilation
text_read context tokens value semicolon w =
    record (passed semicolon.behind (tokens_told context (with_outer (begun w.unit)) tokens w)) {
      unit = waiting_with (tokens_of tokens) value semicolon.token w.unit;
    }

-- Tokens of a text that are one expression, which is gathered, and a semicolon.
pub record IsOne (limits : Limits) (context : Context) (level : ℕ) (events : List (Event Action)) (seen : List Seen) (w : Compilation) :
    Type 0 where
  pub tokens : List Seen
  pub semicolon : Seen
  pub same : tokens ++ semicolon ∷ [] ≡ seen
  pub is_semicolon : semicolon.token.kind ≡ TokenKind.Mark Mark.Semicolon
  pub value : Source
  pub written : Written level (length (begun w.unit).tokens) 0 (atoms_of tokens) value
  pub does : run limits context (happenings_of events seen) (next_comes w) ≡ text_read context tokens value semicolon (next_comes w)

-- Definitions of the end

-- the least finding about an expression, by its operands
abbrev pub finding_of : Wanted → ℕ → List Operand → Source → Option Finding
finding_of wanted first operands value = root_finding wanted first (seen (meant operands value)) (found_in first operands value None)

-- the work behind an expression about which there is a finding or none, and what is told of it: its code by its use, its names used
abbrev pub laid_by : Limits → Context → Place → Use → Source → Option Finding → Compilation → Compilation × Ended
laid_by limits context first u value (Some f) w = (refused limits context first f w, Ended.Wrong f)
laid_by limits context first u value None w =
    let settled = settled_of limits context w in
    let m = meaning limits (tree_in (meant settled.operands value)) in (
      unit_ended limits context first false nothing_found (record w { output = code_for u m (record settled.out { first = first }) }),
      Ended.Laid (left_by u m),
    )

abbrev pub ended_by : Limits → Context → Place → Use → Source → Compilation → Compilation × Ended
ended_by limits context place u value w =
    if w.is_replaced then (passed_over false w, Ended.Laid None)
    else laid_by limits context (own_place w.unit place) u value (finding_of Wanted.Value (order w.unit.begun) (operands_of w) value)
    (leaves_noted w)

-- the work behind a constant, and its value
abbrev pub constant_by : Limits → Context → Place → Source → Option Finding → Compilation → Compilation × Told
constant_by limits context first value (Some f) w = (refused limits context first f w, Told.Wrong f)
constant_by limits context first value None w =
    let settled = settled_of limits context w in (
      unit_ended limits context first false nothing_found (record w { output = settled.out }),
      Told.Is (value_or (constant_of (tree_in (meant settled.operands value)))),
    )

abbrev pub told_by : Limits → Context → Place → Source → Compilation → Compilation × Told
told_by limits context place value w =
    constant_by limits context (own_place w.unit place) value (finding_of Wanted.Constant 0 (operands_of w) value) w

-- A unit has gathered an expression, by the levels of its operators, and no other.
pub record HasOne (value : Source) (u : UnitAtHand) : Type 0 where
  pub level : ℕ
  pub from : ℕ
  pub leaf : ℕ
  pub atoms : List ℕ
  pub written : Written level from leaf atoms value
  pub symbols : u.gathering.symbols ≡ symbols_of false value

-- Definitions of the calls

-- A text of a rule is read whole by `n` turns and one more, from between two pieces on: no fatal message came before it, nothing else
-- happens behind its tokens, all of them are kept, and there are few enough for their orders to differ.
pub record IsReadWhole (limits : Limits) (sources : Sources) (o : Choices) (rule n : ℕ) (s : State) : Type 0 where
  pub fresh : s.reading ≡ between Recovery.Reads
  pub not_ended : has_ended s ≡ false
  pub goes : AllGoOn limits sources o n (begun_with_rule rule s)
  pub plain : IsPlain (alone_stepped limits sources o rule n s)
  pub kept : AllKept (alone_steps limits sources o rule n s)
  pub events : List (Event Action)
  pub is_text : IsText grammar (Symbol.Rule rule ∷ []) (atoms_of (text_seen (alone_steps limits sources o rule n s))) events
  pub few : length (text_seen (alone_steps limits sources o rule n s)) < 4294967295

-- The tokens of a text were one expression and a semicolon, and the part that a call reads leaves the work that is by these.
pub record ReadsOne (limits : Limits) (sources : Sources) (o : Choices) (rule level n : ℕ) (s : State) : Type 0 where
  pub tokens : List Seen
  pub semicolon : Seen
  pub same : tokens ++ semicolon ∷ [] ≡ text_seen (alone_steps limits sources o rule n s)
  pub value : Source
  pub written : Written level (length (begun s.work.unit).tokens) 0 (atoms_of tokens) value
  pub reads : next_comes (alone_work limits sources o rule n s)
      ≡ record (text_read (context_of o s) tokens value semicolon
      (next_comes (passed (text_front (alone_steps limits sources o rule n s)) s.work))) {
        report = (alone_work limits sources o rule n s).report;
      }

-- the state behind a part, where no fatal message came, and what a call makes of it and answers, by its one expression
abbrev pub expression_by : Limits → Choices → Use → Source → State → Answered (Option Simple)
expression_by limits o u value s =
    let e = ended_by limits (context_of o s) first_place u value (unheld s.work) in
    and_then (tell (record s { work = e.0 })) (answering (expression_answer e.1))

abbrev pub value_by : Limits → Choices → Source → State → Answered Value
value_by limits o value s =
    let t = told_by limits (context_of o s) first_place value (unheld s.work) in
    and_then (tell (record s { work = t.0 })) (answering (constant_answer t.1))

abbrev pub unless_over : {T : Type 0} → State → Answered T → Answered T
unless_over s answered = if s.work.report.counts.is_over then (s, Err UnitFault.Fatal) else answered

-- A call by these turns ends this expression by the use that is made of it, unless a fatal message came with its tokens.
pub record LaysOne (limits : Limits) (sources : Sources) (o : Choices) (n : ℕ) (s : State) : Type 0 where
  pub one : ReadsOne limits sources o alone_expression commas n s
  pub answers : (u : Use) → used_so u limits sources o (suc n) s
      ≡ (let r = part limits sources o (suc n) (begun_with_rule alone_expression s) in
      unless_over r (expression_by limits o u one.value r))

pub record TellsOne (limits : Limits) (sources : Sources) (o : Choices) (n : ℕ) (s : State) : Type 0 where
  pub one : ReadsOne limits sources o alone_constant assignments n s
  pub answers : constant limits sources o (suc n) s
      ≡ (let r = part limits sources o (suc n) (begun_with_rule alone_constant s) in unless_over r (value_by limits o one.value r))

-- The tokens of a text of an expression or a constant are one expression and a semicolon, by whatever they are read (`texts`). The end of a
-- unit that has gathered one expression is by this one (`ends`, `constants`). So the calls for expressions, conditions and constants, where
-- the text is read whole, lay and answer what is by the one expression that they read (`expressions_called`, `constants_called`).
pub record ExpressionsAreLaidAlone (limits : Limits) : Type 0 where
  pub texts : (kind : Kind) → IsOneOf kind kinds → (context : Context) (seen : List Seen) (events : List (Event Action))
      → IsText grammar (Symbol.Rule kind.rule ∷ []) (atoms_of seen) events → AreSeen (atoms_of seen) (tokens_of seen)
      → length seen < 4294967295 → (w : Compilation) → IsOne limits context kind.level events seen w
  pub ends : (context : Context) (place : Place) (u : Use) (value : Source) (w : Compilation) → HasOne value w.unit
      → alone_ended limits context place u w ≡ ended_by limits context place u value w
  pub constants : (context : Context) (place : Place) (value : Source) (w : Compilation) → HasOne value w.unit
      → constant_alone limits context place w ≡ told_by limits context place value w
  pub expressions_called : (sources : Sources) (o : Choices) (n : ℕ) (s : State)
      → IsReadWhole limits sources o alone_expression n s → LaysOne limits sources o n s
  pub constants_called : (sources : Sources) (o : Choices) (n : ℕ) (s : State)
      → IsReadWhole limits sources o alone_constant n s → TellsOne limits sources o n s
