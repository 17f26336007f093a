-- Promises of a call that reads a text by itself, by its answer.
use Rattle.std.specs.Prelude.{◌≡◌, ℕ, ◌<◌, ◌⊎◌, List, ◌++◌, length, Bool, false, true, Option, Result, Ok, Err, if◌then◌else◌, ⊤}
use Rattle.inf_settings.specs.Bounds.{Limits}
use Rattle.inf_devices.specs.{Files.Openings, Files.Rose, Files.Sources, Sinks.Takes, declared.files.Files.Ghosts as Files}
use Rattle.inf_devices.specs.declared.sinks.Sink.{Ghosts as Sink}
use Rattle.inf_sources.specs.{Calls.Honestly, Calls.IsUnreadable, Calls.StaysFit, Calls.Went, Open.Open, Open.opened_since}
use Rattle.inf_reader.specs.Reading.{is_mode_ended}
use Rattle.inf_session.specs.{Choices.Choices, Choices.chosen, Leading.CutsShort, Leading.GivenUp}
use Rattle.inf_session.specs.{Leading.OpensAll, Leading.Writes, Session.State, Session.run}
use Rattle.inf_session.specs.Standing.{IsSet, ended, is_fatal, state}
use Rattle.inf_session.specs.declared.session.Session.{Session}
use Rattle.inf_ending.specs.{Delivered.Appends, Faults.Caused, Faults.IfRead, Faults.UnlessMessages, declared.faults.Fault.Fault}
use Rattle.inf_calls.specs.{Calls.Answered, declared.faults.UnitFault.UnitFault}

-- Tells whether a session has failed with a fault, and with an answer.
abbrev pub is_failure : UnitFault → Bool
is_failure (UnitFault.Lost f) = true
is_failure UnitFault.Syntax = false
is_failure (UnitFault.Semantic f) = false
is_failure UnitFault.Wrong = false
is_failure UnitFault.Fatal = false

abbrev pub is_lost : {T : Type 0} → Result T UnitFault → Bool
is_lost (Ok v) = false
is_lost (Err f) = is_failure f

-- Something holds of an answer, unless the session has failed.
abbrev pub IfAnswered : {T : Type 0} → Result T UnitFault → (Result T UnitFault → Type 0) → Type 0
IfAnswered answer P = is_lost answer ≡ false → P answer

-- Something holds of the fault by which the session has failed.
abbrev pub IfFailure : UnitFault → (Fault → Type 0) → Type 0
IfFailure (UnitFault.Lost f) P = P f
IfFailure UnitFault.Syntax P = Unit {0}
IfFailure (UnitFault.Semantic f) P = Unit {0}
IfFailure UnitFault.Wrong P = Unit {0}
IfFailure UnitFault.Fatal P = Unit {0}

abbrev pub IfLost : {T : Type 0} → Result T UnitFault → (Fault → Type 0) → Type 0
IfLost (Ok v) P = Unit {0}
IfLost (Err f) P = IfFailure f P

-- A call leads from the state before to the state now with an answer, whatever was written before, and wrote these lines.
pub record Calls {T : Type 0} (call : State → Answered T) (was now : List ℕ → State) (answer : Result T UnitFault)
    (old new : Option (List ℕ)) : Type 0 where
  pub lines : List ℕ
  pub takes : Takes old new lines
  pub same : (told : List ℕ) → (now (told ++ lines), answer) ≡ call (was told)

-- The end of a unit leads to its answer, or a front of its lines was written, and no name of a file is told.
abbrev pub Ends : {M B T : Type 0} → Sink M → (State → Answered T) → M → M → Session B → Session B → Result T UnitFault → Type 0
Ends m call old new before after answer =
    (sources : Sources) → (start now : Openings) → IfAnswered answer (λ a. Calls call (state sources start now before)
    (state sources start now after) a (m.taken old) (m.taken new))

abbrev pub EndsCut : {M B T : Type 0} → Sink M → (State → Answered T) → M → M → Session B → Result T UnitFault → Type 0
EndsCut m call old new before answer = (sources : Sources) → (start now : Openings) → IfLost answer (λ fault.
    CutsShort (λ s. (call s).0) (state sources start now before) (m.taken old) (m.taken new))

-- A call of a session, with its reader and its sink before and behind it, leads to its answer, with an honest reader.
abbrev pub Answers : {R M B T : Type 0} → Files R → Sink M → (Sources → Choices → ℕ → State → Answered T) → R → R → M → M → Session B →
    Session B → Result T UnitFault → Type 0
Answers f m call was is old new before after answer =
    ended before ≡ false → Honestly f was before.open_files (λ start. IfAnswered answer (λ a. (turns : ℕ)
    × Calls (call (f.sources was) (chosen before.setup) turns) (state (f.sources was) start (f.openings was) before)
    (state (f.sources was) start (f.openings is) after) a (m.taken old) (m.taken new)))

-- A call that reads a part, before which `begin` puts a rule on the machine, leads to its answer by as many turns as the part has.
abbrev pub Reads : {R M B T : Type 0} → Files R → Sink M → Limits → (State → State) → (Sources → Choices → ℕ → State → Answered T) → R →
    R → M → M → Session B → Session B → Result T UnitFault → Type 0
Reads f m limits begin call was is old new before after answer =
    ended before ≡ false → Honestly f was before.open_files (λ start. IfAnswered answer (λ a. (turns : ℕ)
    × (Calls (call (f.sources was) (chosen before.setup) turns) (state (f.sources was) start (f.openings was) before)
    (state (f.sources was) start (f.openings is) after) a (m.taken old) (m.taken new)
    × Writes (λ s. run limits (f.sources was) (chosen before.setup) turns (begin s))
    (state (f.sources was) start (f.openings was) before) (state (f.sources was) start (f.openings is) after) (m.taken old) (m.taken new))))

-- Where a session has failed in the reading of a part: the lines that were written are no more than a front of those that some turns write;
-- the sources that have been opened are those that these turns open; and a file is named at which these turns stop. Reading begins as
-- `begin` says.
pub record ReadFailed {M : Type 0} (m : Sink M) (failed : Type 0) (limits : Limits) (sources : Sources) (o : Choices) (begin : State →
    State) (was : List ℕ → State) (old new : M) (start now : Openings) (files : Open) (fault : Fault) : Type 0 where
  pub turns : ℕ
  pub cut : CutsShort (λ s. run limits sources o turns (begin s)) was (m.taken old) (m.taken new)
  pub others : ℕ
  pub opened : OpensAll (λ s. run limits sources o others (begin s)) was (opened_since start now)
  pub unread : IfRead fault (λ name. GivenUp limits failed sources o (λ told. begin (was told)) (m.taken old) (m.taken new) start now files
      name)

abbrev pub ReadFails : {R M B T : Type 0} → Files R → Sink M → Limits → (State → State) → R → R → M → M → Session B → Session B →
    Result T UnitFault → Type 0
ReadFails f m limits begin was is old new before after answer =
    ended before ≡ false → Honestly f was before.open_files (λ start. IfLost answer (λ fault.
    ReadFailed m (Rose (f.faults was) (f.faults is)) limits (f.sources was) (chosen before.setup) begin
    (state (f.sources was) start (f.openings was) before) old new start (f.openings is) after.open_files fault))

-- Where a session has failed at the end of a unit: the lines that were written are no more than a front of those that the call writes, and
-- the sources that have been opened are those that its turns open.
pub record EndFailed {M T : Type 0} (m : Sink M) (limits : Limits) (sources : Sources) (o : Choices) (begin : State → State)
    (call : ℕ → State → Answered T) (was : List ℕ → State) (old new : M) (start now : Openings) (fault : Fault) : Type 0 where
  pub turns : ℕ
  pub cut : CutsShort (λ s. (call turns s).0) was (m.taken old) (m.taken new)
  pub opened : OpensAll (λ s. run limits sources o turns (begin s)) was (opened_since start now)
  pub unread : IfRead fault (λ name. ⊥)

abbrev pub Fails : {R M B T : Type 0} → Files R → Sink M → Limits → (State → State) → (Sources → Choices → ℕ → State → Answered T) → R →
    R → M → M → Session B → Session B → Result T UnitFault → Type 0
Fails f m limits begin call was is old new before after answer =
    ended before ≡ false → Honestly f was before.open_files (λ start. IfLost answer (λ fault.
    ReadFailed m (Rose (f.faults was) (f.faults is)) limits (f.sources was) (chosen before.setup) begin
    (state (f.sources was) start (f.openings was) before) old new start (f.openings is) after.open_files fault
    ⊎ EndFailed m limits (f.sources was) (chosen before.setup) begin (call (f.sources was) (chosen before.setup))
    (state (f.sources was) start (f.openings was) before) old new start (f.openings is) fault))

-- The answer where no text can be read: behind a fatal message, and behind the end of the main source.
abbrev pub refusal : {B : Type 0} → Session B → Result ⊤ UnitFault
refusal s = if is_fatal s then Err UnitFault.Fatal else if is_mode_ended s.progress.reader.mode then Err UnitFault.Syntax else Ok tt

-- A call opens and closes just the files that are open now in place of those that were, with any reader. Unless the session has failed, it
-- goes on.
pub record Stays {R B T : Type 0} (f : Files R) (was is : R) (before after : Session B) (answer : Result T UnitFault) : Type 0 where
  pub went : Went f was is before.open_files after.open_files
  pub is_open : length after.open_files.outer < f.depth is
  pub set : IsSet after
  pub setup : after.setup ≡ before.setup
  pub goes : IfAnswered answer (λ a. after.open_files.lexer.has_failed ≡ false)
  pub fits : IfAnswered answer (λ a. StaysFit f was is before.open_files)

-- A fault has its cause.
abbrev pub HasCause : {R M B T : Type 0} → Files R → Sink M → R → R → M → M → Session B → Session B → Result T UnitFault → Type 0
HasCause f m was is old new before after answer =
    IfLost answer (λ fault. Caused fault (λ name. IsUnreadable f was is before.open_files after.open_files)
    (Rose (m.failures old) (m.failures new)))

-- A call only adds to what was written, and hides no failure to write it.
abbrev pub Adds : {M T : Type 0} → Sink M → M → M → Result T UnitFault → Type 0
Adds m old new answer = Appends m old new × (IfAnswered answer (λ a. m.failures new ≡ m.failures old)
    × IfLost answer (λ fault. UnlessMessages fault (m.failures new ≡ m.failures old)))

-- A call with its reader and its sink before and behind it. With an honest reader it leads to its answer as `leads` says, and where the session
-- has failed, `fails` holds. With any reader a fault has its cause, and what was written stays. Where no text can be read, nothing happens.
pub record Called {R M B T : Type 0} (leads fails : Type 0) (f : Files R) (m : Sink M) (was is : R) (old new : M) (before after : Session B)
    (answer : Result T UnitFault) : Type 0 where
  pub answers : leads
  pub lost : fails
  pub fault : HasCause f m was is old new before after answer
  pub adds : Adds m old new answer
  pub again : (fault : UnitFault) → refusal before ≡ Err fault → (answer ≡ Err fault) × ((after ≡ before) × ((is ≡ was) × (new ≡ old)))

-- A call that reads a part: `read` tells its answer by the turns of the part, before which `begin` puts a rule on the machine.
abbrev pub ReadsPart : {R M B T : Type 0} → Files R → Sink M → Limits → (State → State) → (Sources → Choices → ℕ → State → Answered T) → R →
    R → M → M → Session B → Session B → Result T UnitFault → Type 0
ReadsPart f m limits begin read was is old new before after answer =
    Called (Reads f m limits begin (λ sources o turns s. read sources o turns (begin s)) was is old new before after answer)
    (ReadFails f m limits begin was is old new before after answer) f m was is old new before after answer

-- A call whose text ends by itself: the session can only fail in the reading of it.
abbrev pub ReadsText : {R M B T : Type 0} → Files R → Sink M → Limits → (State → State) → (Sources → Choices → ℕ → State → Answered T) → R →
    R → M → M → Session B → Session B → Result T UnitFault → Type 0
ReadsText f m limits begin call was is old new before after answer =
    Called (Answers f m call was is old new before after answer) (ReadFails f m limits begin was is old new before after answer)
    f m was is old new before after answer

-- A call whose text is ended by the call: the session can fail in the reading of it, and at its end.
abbrev pub EndsText : {R M B T : Type 0} → Files R → Sink M → Limits → (State → State) → (Sources → Choices → ℕ → State → Answered T) → R →
    R → M → M → Session B → Session B → Result T UnitFault → Type 0
EndsText f m limits begin call was is old new before after answer =
    Called (Answers f m call was is old new before after answer) (Fails f m limits begin call was is old new before after answer)
    f m was is old new before after answer
