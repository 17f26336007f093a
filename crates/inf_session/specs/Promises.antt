-- Promises of the calls of a session together, by the fault with which a call ended: the step of reading that was made with an honest
-- reader, or where it was given up, and with any reader what holds on.
use Rattle.std.specs.Prelude.{◌≡◌, ℕ, ◌<◌, ◌⊎◌, List, Bool, false, true, Option, Some, None, Result, Ok, Err, IfNone, IfSome, IfOk, OnOk}
use Rattle.std.specs.Prelude.{MatchOption}
use Rattle.inf_settings.specs.Bounds.{Limits}
use Rattle.inf_devices.specs.Files.{Openings, Rose, Sources}
use Rattle.inf_devices.specs.declared.{files.Files.Ghosts as Files, sinks.Sink.Ghosts as Sink}
use Rattle.inf_sources.specs.{Calls.Honestly, Calls.IsUnreadable, Calls.StaysFit, Calls.Went, Open.Open, Open.opened_since}
use Rattle.inf_ending.specs.{Delivered.Appends, Faults.Caused, Faults.IfRead, Faults.UnlessMessages, Faults.UnlessRead, Faults.fault_of}
use Rattle.inf_ending.specs.declared.faults.{Fault.Fault, Halt.Halt}
use Rattle.inf_session.specs.{Choices.Choices, Choices.chosen, Session.State, Session.part, Session.run, Session.turn}
use Rattle.inf_session.specs.Leading.{CutsShort, GivenUp, NotTried, OpensAll, OpensWithin, StopsFor, StopsAtInclusion, StopsInToken, Writes}
use Rattle.inf_session.specs.Standing.{IsBounded, IsSet, came_to, ended, parted, state}
use Rattle.inf_session.specs.declared.session.{Session.Session, Step.Step}

-- the fault of an answer, if it has one
abbrev pub fault_in : {T : Type 0} → Result T Fault → Option Fault
fault_in (Ok x) = None
fault_in (Err fault) = Some fault

-- the fault that is told for a turn that was given up, where `lost` was put aside
abbrev pub halt_in : {T : Type 0} → Result T Halt → Option Fault → Option Fault
halt_in (Ok x) lost = None
halt_in (Err halt) lost = Some (fault_of halt lost)

-- A call comes to something, for these sources and choices, where the openings before the main source was opened were these.
abbrev pub Making : Type 1
Making = Sources → Choices → Openings → Type 0

-- A call was given up with a fault. The first argument says that the device failed.
abbrev pub Breaking : Type 1
Breaking = Type 0 → Sources → Choices → Openings → Fault → Type 0

-- A call of a session, with the reader before and behind it, that ended with `fault` or none. With an honest reader it `comes` somewhere,
-- or `breaks` off. With any reader it opens and closes just the files that are open now in place of others; choices stay, and reading can
-- go on; no file is given more bytes than it may have; a failure of the reader is told; and the fault has its cause, which is `unwritten`
-- for one of writing messages.
pub record Promised {R B : Type 0} (f : Files R) (was is : R) (before after : Session B) (fault : Option Fault) (comes : Making)
    (breaks : Breaking) (unwritten : Type 0) : Type 0 where
  pub made : Honestly f was before.open_files (λ start. IfNone fault (comes (f.sources was) (chosen before.setup) start))
  pub broken : Honestly f was before.open_files (λ start. IfSome fault
      (breaks (Rose (f.faults was) (f.faults is)) (f.sources was) (chosen before.setup) start))
  pub went : Went f was is before.open_files after.open_files
  pub setup : after.setup ≡ before.setup
  pub set : IsSet before → IsSet after
  pub goes : IfNone fault (before.open_files.lexer.has_failed ≡ false → after.open_files.lexer.has_failed ≡ false)
  pub fits : IfNone fault (StaysFit f was is before.open_files)
  pub seen : MatchOption fault (f.faults is ≡ f.faults was) (λ e. UnlessRead e (f.faults is ≡ f.faults was))
  pub cause : IfSome fault (λ e. Caused e (λ name. IsUnreadable f was is before.open_files after.open_files) unwritten)

-- A call that ended with `fault` or none added some lines to those that a sink took; a failure to write is counted, and told.
pub record Wrote {M : Type 0} (m : Sink M) (old new : M) (fault : Option Fault) : Type 0 where
  pub appends : Appends m old new
  pub quiet : MatchOption fault (m.failures new ≡ m.failures old) (λ e. UnlessMessages e (m.failures new ≡ m.failures old))

-- Parts of a turn, before the messages are written

-- a step of reading, by sources and choices
abbrev pub ReadingStep : Type 0
ReadingStep = Sources → Choices → State → State

-- A state at which reading stops for a file of a name, where these files are open.
abbrev pub Stopping : Type 1
Stopping = Type 0 → Sources → Choices → State → Openings → Openings → Open → List ℕ → Type 0

abbrev pub StepIs : {R B : Type 0} → Files R → ReadingStep → R → R → Session B → Session B → Making
StepIs f step was is before after sources o start =
    (told : List ℕ) → state sources start (f.openings is) after told ≡ step sources o (state sources start (f.openings was) before told)

-- A part of a turn was given up: the sources that have been opened are those before it, or all that it opens, and the file that is told is
-- one for which reading stops.
pub record Stops {R B : Type 0} (f : Files R) (step : ReadingStep) (stops : Stopping) (was is : R) (before after : Session B)
    (failed : Type 0) (sources : Sources) (o : Choices) (start : Openings) (e : Fault) : Type 0 where
  pub opened : OpensWithin (step sources o) (state sources start (f.openings was) before) (opened_since start (f.openings is))
  pub unread : IfRead e (λ name. (told : List ℕ) →
      stops failed sources o (state sources start (f.openings was) before told) start (f.openings is) after.open_files name)

-- A part of a turn makes `step`, or stops.
abbrev pub PartOfTurn : {R B : Type 0} → Files R → ReadingStep → Stopping → R → R → Session B → Session B → Option Fault → Type 0
PartOfTurn f step stops was is before after fault =
    Promised f was is before after fault (StepIs f step was is before after) (Stops f step stops was is before after) ⊥

-- The next token is not read; the file for which a directive asks is not entered; or the file of an inclusion of a text.
abbrev pub in_token : Stopping
in_token failed sources o s start now files name = StopsInToken failed sources s start now files name

abbrev pub at_inclusion : Stopping
at_inclusion failed sources o s start now files name = StopsAtInclusion failed sources o s (opened_since start now) name

abbrev pub in_inclusion : List ℕ → Stopping
in_inclusion text failed sources o s start now files name =
    (name ≡ text) × NotTried failed sources o.directories text s.nesting (opened_since start now)

abbrev pub nowhere : Stopping
nowhere failed sources o s start now files name = ⊥

-- Turns, whose lines are written

-- One turn writes its lines.
abbrev pub TurnIs : {R M B : Type 0} → Files R → Sink M → Limits → R → R → M → M → Session B → Session B → Making
TurnIs f m limits was is old new before after sources o start =
    Writes (turn limits sources o) (state sources start (f.openings was) before) (state sources start (f.openings is) after)
    (m.taken old) (m.taken new)

-- A turn was given up: a front of its lines was written, and none where a file was not read, for which reading stops there.
pub record TurnBreaks {R M B : Type 0} (f : Files R) (m : Sink M) (limits : Limits) (was is : R) (old new : M) (before after : Session B)
    (failed : Type 0) (sources : Sources) (o : Choices) (start : Openings) (e : Fault) : Type 0 where
  pub cut : CutsShort (turn limits sources o) (state sources start (f.openings was) before) (m.taken old) (m.taken new)
  pub opened : OpensWithin (turn limits sources o) (state sources start (f.openings was) before) (opened_since start (f.openings is))
  pub unread : IfRead e (λ name. (m.taken new ≡ m.taken old) × ((told : List ℕ) →
      StopsFor limits failed sources o (state sources start (f.openings was) before told) start (f.openings is) after.open_files name))

-- Some turns write their lines; they are those of a part, up to its end.
abbrev pub Runs : {R M B : Type 0} → Files R → Sink M → Limits → R → R → M → M → Session B → Session B → Making
Runs f m limits was is old new before after sources o start =
    (turns : ℕ) × Writes (run limits sources o turns) (state sources start (f.openings was) before)
    (state sources start (f.openings is) after) (m.taken old) (m.taken new)

abbrev pub RunsPart : {R M B : Type 0} → Files R → Sink M → Limits → R → R → M → M → Session B → Session B → Making
RunsPart f m limits was is old new before after sources o start =
    (turns : ℕ) × (Writes (part limits sources o turns) (state sources start (f.openings was) before)
    (state sources start (f.openings is) after) (m.taken old) (m.taken new)
    × Writes (run limits sources o turns) (state sources start (f.openings was) before)
    (state sources start (f.openings is) after) (m.taken old) (m.taken new))

-- Reading was given up in some turns: a front of their lines was written, the sources that have been opened are those of some turns, and
-- where a file was not read, all lines were written of the turns before it, behind which reading stops for it.
pub record RunBreaks {R M B : Type 0} (f : Files R) (m : Sink M) (limits : Limits) (was is : R) (old new : M) (before after : Session B)
    (failed : Type 0) (sources : Sources) (o : Choices) (start : Openings) (e : Fault) : Type 0 where
  pub turns : ℕ
  pub cut : CutsShort (run limits sources o turns) (state sources start (f.openings was) before) (m.taken old) (m.taken new)
  pub others : ℕ
  pub opened : OpensAll (run limits sources o others) (state sources start (f.openings was) before) (opened_since start (f.openings is))
  pub unread : IfRead e (λ name. GivenUp limits failed sources o (state sources start (f.openings was) before) (m.taken old) (m.taken new)
      start (f.openings is) after.open_files name)

-- A call that makes one turn; some turns, up to the end; and those of a part. It tells when messages cannot be written.
abbrev pub MakesTurn : {R M B : Type 0} → Files R → Sink M → Limits → R → R → M → M → Session B → Session B → Option Fault → Type 0
MakesTurn f m limits was is old new before after fault =
    Promised f was is before after fault (TurnIs f m limits was is old new before after) (TurnBreaks f m limits was is old new before after)
    (Rose (m.failures old) (m.failures new))

abbrev pub MakesTurns : {R M B : Type 0} → Files R → Sink M → Limits → R → R → M → M → Session B → Session B → Option Fault → Type 0
MakesTurns f m limits was is old new before after fault =
    Promised f was is before after fault (Runs f m limits was is old new before after) (RunBreaks f m limits was is old new before after)
    (Rose (m.failures old) (m.failures new))

abbrev pub MakesPart : {R M B : Type 0} → Files R → Sink M → Limits → R → R → M → M → Session B → Session B → Option Fault → Type 0
MakesPart f m limits was is old new before after fault =
    Promised f was is before after fault (RunsPart f m limits was is old new before after)
    (RunBreaks f m limits was is old new before after) (Rose (m.failures old) (m.failures new))

-- A step makes a part of the source, unless it had ended before.
abbrev pub MakesStep : {R M B : Type 0} → Files R → Sink M → Limits → R → R → M → M → Session B → Session B → Option Fault → Type 0
MakesStep f m limits was is old new before after fault = Promised f was is before after fault
    (λ sources o start. ended before ≡ false → RunsPart f m limits was is old new before after sources o start)
    (λ failed sources o start e. ended before ≡ false → RunBreaks f m limits was is old new before after failed sources o start e)
    (Rose (m.failures old) (m.failures new))

-- Steps, and texts in memory

-- A step ended with its result between two parts; `is_over` tells whether nothing is left, and `left` how much. Behind the end nothing
-- happens.
pub record Stepped {R M B : Type 0} (is_over : Session B → Bool) (left : Session B → ℕ) (was is : R) (old new : M)
    (before after : Session B) (answer : Result Step Fault) : Type 0 where
  pub parted : OnOk answer (parted after ≡ true)
  pub came : IfOk answer (λ step. step ≡ came_to (is_over before) after)
  pub ends : IfOk answer (λ step. (step ≡ Step.More → ⊥) → is_over after ≡ true)
  pub again : is_over before ≡ true → (answer ≡ Ok (came_to true before)) × ((after ≡ before) × ((is ≡ was) × (new ≡ old)))
  pub bounded : IsBounded before → OnOk answer (IsBounded after)
  pub falls : OnOk answer ((is_over after ≡ true) ⊎ (left after < left before))

-- A call makes a step of reading of texts in memory, whatever the files are, and writes its lines, or a front of them.
pub record Supplies {M B : Type 0} (m : Sink M) (step : Choices → State → State) (old new : M) (before after : Session B)
    (fault : Option Fault) : Type 0 where
  pub made : (sources : Sources) (start now : Openings) → IfNone fault (Writes (step (chosen before.setup))
      (state sources start now before) (state sources start now after) (m.taken old) (m.taken new))
  pub broken : (sources : Sources) (start now : Openings) → IfSome fault (λ e.
      CutsShort (step (chosen before.setup)) (state sources start now before) (m.taken old) (m.taken new))
  pub files : after.open_files ≡ before.open_files
  pub setup : after.setup ≡ before.setup
  pub cause : IfSome fault (λ e. Caused e (λ name. ⊥) (Rose (m.failures old) (m.failures new)))
  pub wrote : Wrote m old new fault
