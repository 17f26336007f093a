-- The calls that read a text by themselves, as steps of the state of a session: a rule of the grammar is put on the machine, a part is read
-- with it, and what was gathered takes effect.
use Rattle.std.specs.Prelude.{◌≡◌, ℕ, ◌-◌, nat_lt, ◌∷◌, length, Bool, if◌then◌else◌, Option, Some, None, Result, Ok, Err, ⊤}
use Rattle.inf_settings.specs.Bounds.{Limits}
use Rattle.inf_area.specs.declared.targets.Value.{Value}
use Rattle.inf_area.specs.Cells.{later_count}
use Rattle.inf_code.specs.Code.{Routines, place_behind}
use Rattle.inf_devices.specs.Files.{Sources}
use Rattle.inf_machine.specs.declared.symbols.Symbol.{Symbol}
use Rattle.inf_output.specs.declared.operands.Simple.{Simple}
use Rattle.inf_compilation.specs.Actions.{Compilation, piece_begun}
use Rattle.inf_alone.specs.Ending.{alone_ended, constant_alone}
use Rattle.inf_alone.specs.declared.ending.{Ended.Ended, Told.Told, Use.Use}
use Rattle.inf_session.specs.{Choices.Choices, Session.State, Session.context_of, Session.part, Session.told_out}
use Rattle.inf_ending.specs.Ending.{first_place}
use Rattle.inf_calls.specs.declared.{cx.Branch.Branch, cx.Closed.Closed, cx.Want.Want, faults.UnitFault.UnitFault}

-- the state behind a call, and its answer
abbrev pub Answered : Type 0 → Type 0
Answered T = State × Result T UnitFault

-- A call goes on behind an answer that is none of the faults.
abbrev pub then_by : {S T : Type 0} → (S → State → Answered T) → State → Result S UnitFault → Answered T
then_by next s (Ok v) = next v s
then_by next s (Err f) = (s, Err f)

abbrev pub and_then : {S T : Type 0} → Answered S → (S → State → Answered T) → Answered T
and_then a next = then_by next a.0 a.1

-- Definitions of reading

-- the rules of the grammar for texts that are read by themselves, by their numbers
abbrev pub alone_expression : ℕ
alone_expression = 251

abbrev pub alone_constant : ℕ
alone_constant = 252

abbrev pub alone_line : ℕ
alone_line = 253

abbrev pub alone_header : ℕ
alone_header = 254

abbrev pub alone_close : ℕ
alone_close = 255

-- a text of a rule is to be read next
abbrev pub begun_with_rule : ℕ → State → State
begun_with_rule rule s = record s { reading = record s.reading { stack = Symbol.Rule rule ∷ s.reading.stack } }

-- the header of a routine is to be read next, and all of the piece before it is forgotten
abbrev pub begun_with_header : State → State
begun_with_header s = begun_with_rule alone_header (record s { work = piece_begun s.work })

-- The answer behind a part, before which a number of errors was told: whether there are more.
abbrev pub told_more : ℕ → State → Result Bool UnitFault
told_more errors s = if s.work.report.counts.is_over then Err UnitFault.Fatal else Ok (nat_lt errors s.work.report.counts.errors)

-- At most `turns` turns, up to the end of a part.
abbrev pub part_read : Limits → Sources → Choices → ℕ → State → Answered Bool
part_read limits sources o turns s =
    let r = part limits sources o turns s in (r, told_more s.work.report.counts.errors r)

-- A text is whole where its last token was taken: then it waits for its end.
abbrev pub waiting : Option ℕ → Result ⊤ UnitFault
waiting None = Err UnitFault.Syntax
waiting (Some count) = Ok tt

abbrev pub whole : Bool → State → Answered ⊤
whole told s = (s, waiting s.work.unit.held)

abbrev pub whole_read : Limits → Sources → Choices → ℕ → State → Answered ⊤
whole_read limits sources o turns s = and_then (part_read limits sources o turns s) whole

-- Definitions of ends

abbrev pub unheld : Compilation → Compilation
unheld w = record w { unit = record w.unit { held = None } }

-- The messages about a unit that has ended are written. Behind a fatal one there is no other answer.
abbrev pub tell : State → Answered ⊤
tell s = (told_out s, if s.work.report.counts.is_over then Err UnitFault.Fatal else Ok tt)

abbrev pub answering : {T : Type 0} → Result T UnitFault → ⊤ → State → Answered T
answering answer told s = (s, answer)

-- The state behind an expression that was read, and what is told of it.
abbrev pub expression_carried : Limits → Choices → Use → State → State × Ended
expression_carried limits o u s =
    let e = alone_ended limits (context_of o s) first_place u (unheld s.work) in (record s { work = e.0 }, e.1)

abbrev pub expression_answer : Ended → Result (Option Simple) UnitFault
expression_answer (Ended.Wrong f) = Err (UnitFault.Semantic f)
expression_answer (Ended.Laid left) = Ok left

abbrev pub expression_ended : Limits → Choices → Use → State → Answered (Option Simple)
expression_ended limits o u s =
    let e = expression_carried limits o u s in and_then (tell e.0) (answering (expression_answer e.1))

-- The state behind a constant that was read, and what is told of it.
abbrev pub constant_carried : Limits → Choices → State → State × Told
constant_carried limits o s =
    let t = constant_alone limits (context_of o s) first_place (unheld s.work) in (record s { work = t.0 }, t.1)

abbrev pub constant_answer : Told → Result Value UnitFault
constant_answer (Told.Wrong f) = Err (UnitFault.Semantic f)
constant_answer (Told.Is v) = Ok v

abbrev pub constant_ended : Limits → Choices → State → Answered Value
constant_ended limits o s =
    let t = constant_carried limits o s in and_then (tell t.0) (answering (constant_answer t.1))

-- Definitions of the calls

abbrev pub use_of : Want → Use
use_of Want.Nothing = Use.Nothing
use_of Want.Stack = Use.Operand
use_of (Want.Variable v) = Use.Variable v

abbrev pub used_so : Use → Limits → Sources → Choices → ℕ → State → Answered (Option Simple)
used_so u limits sources o turns s =
    and_then (whole_read limits sources o turns (begun_with_rule alone_expression s)) (λ _. expression_ended limits o u)

abbrev pub expression : Want → Limits → Sources → Choices → ℕ → State → Answered (Option Simple)
expression want limits sources o turns s = used_so (use_of want) limits sources o turns s

-- A branch leaves no operand.
abbrev pub done : Result (Option Simple) UnitFault → Result ⊤ UnitFault
done (Ok left) = Ok tt
done (Err f) = Err f

abbrev pub condition : Branch → Limits → Sources → Choices → ℕ → State → Answered ⊤
condition b limits sources o turns s =
    let e = used_so (Use.Branch b.sense b.label) limits sources o turns s in (e.0, done e.1)

abbrev pub constant : Limits → Sources → Choices → ℕ → State → Answered Value
constant limits sources o turns s =
    and_then (whole_read limits sources o turns (begun_with_rule alone_constant s)) (λ _. constant_ended limits o)

-- A text whose units end by themselves is wrong where errors were told.
abbrev pub unless_told : {T : Type 0} → Bool → T → Result T UnitFault
unless_told told answer = if told then Err UnitFault.Wrong else Ok answer

abbrev pub faultless : Bool → State → Answered ⊤
faultless told s = (s, unless_told told tt)

abbrev pub faultless_read : Limits → Sources → Choices → ℕ → State → Answered ⊤
faultless_read limits sources o turns s = and_then (part_read limits sources o turns s) faultless

abbrev pub assembly_line : Limits → Sources → Choices → ℕ → State → Answered ⊤
assembly_line limits sources o turns s = faultless_read limits sources o turns (begun_with_rule alone_line s)

abbrev pub header : Limits → Sources → Choices → ℕ → State → Answered ⊤
header limits sources o turns s = faultless_read limits sources o turns (begun_with_header s)

abbrev pub close : Limits → Sources → Choices → ℕ → State → Answered ⊤
close limits sources o turns s = faultless_read limits sources o turns (begun_with_rule alone_close s)

-- The place of what was added to the code, the number of its bytes, and that of its references.
abbrev pub added : Routines → Routines → Closed
added before now = record {
  start = place_behind before.finished;
  len = place_behind now.finished - place_behind before.finished;
  refs = later_count now.finished - later_count before.finished;
}

abbrev pub routine_closed : Routines → Bool → State → Answered Closed
routine_closed before told s = (s, unless_told told (added before s.work.output.code))

abbrev pub routine_body : Limits → Sources → Choices → ℕ → State → Answered Closed
routine_body limits sources o turns s = and_then (part_read limits sources o turns s) (routine_closed s.work.output.code)
