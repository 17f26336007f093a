-- The promises of a compilation at a fault, and those about devices that claim nothing.
use Rattle.std.specs.Prelude.{◌≡◌, ℕ, List, Option, None, Some, IfErr, IfOk, MatchResult, Ok, Result}
use Rattle.inf_devices.specs.{Files.Openings, Files.Rose, Files.Sources, Sinks.Takes, declared.files.Files.Ghosts as Files}
use Rattle.inf_devices.specs.{declared.sinks.Sink.Ghosts as Sink}
use Rattle.inf_session.specs.{Choices.Choices, Session.start}
use Rattle.inf_settings.specs.Bounds.{limits_of}
use Rattle.inf_ending.specs.{Delivered.SucceedsClean, Faults.Caused, Faults.HidesNoFailure, Faults.IfRead, Faults.IfStory}
use Rattle.inf_ending.specs.{Faults.TellsEachRead, Faults.UnlessStory, declared.compiled.Compiled.Compiled, declared.compiled.Status.Status}
use Rattle.inf_ending.specs.{declared.faults.Fault.Fault}
use Rattle.inf_compile.specs.Comes.{Heard, IsUnread, OpenedPart, StopsEarly}
use Rattle.inf_compile.specs.Compiling.{HasCause, IfMemory, TakesClean, TakesPart}

-- With an honest reader, at a fault: the openings are those of a part of the reading. At want of memory none of the last messages was
-- written; after a fault of reading all were written that come before the place where reading stopped, and it stopped for a cause.
pub record GivesUp (failed : Type 0) (sources : Sources) (o : Choices) (name : List ℕ) (old new : Openings) (before after : Option (List ℕ))
    (fault : Fault) : Type 0 where
  pub opened : OpenedPart sources o name old new
  pub early : IfMemory fault (StopsEarly (limits_of o.settings) sources o (start sources o name) before after)
  pub heard : IfRead fault (λ told. Heard failed sources o name old new before after told)

-- With any reader and any sink, once all messages were written, or where that was given up: no story comes with an error, a failure to
-- open or to read a source or to write messages is told, and a fault has its cause.
pub record LeavesMessages {S M : Type 0} (f : Files S) (m : Sink M) (old new : S) (before after : M) (serial : List ℕ)
    (r : Result Compiled Fault) : Type 0 where
  pub errors : IfOk r (λ compiled. compiled.status ≡ Status.Errors → compiled.story ≡ None)
  pub clean : IfOk r (λ compiled. SucceedsClean serial compiled (m.taken before) (m.taken after))
  pub seen : TellsEachRead r (f.faults old) (f.faults new)
  pub quiet : HidesNoFailure r (m.failures before) (m.failures after)
  pub fault : IfErr r (λ fault. Caused fault (λ name. IsUnread f old new) (Rose (m.failures before) (m.failures after)))

-- With any reader and any sinks, once the story was written, or where that was given up: no story comes with an error, each failure is told
-- and has its cause, and the story's sink took a part of a story only where it did not take it whole.
pub record LeavesDevices {S M W : Type 0} (f : Files S) (m : Sink M) (w : Sink W) (old new : S) (before after : M) (was now : W)
    (serial : List ℕ) (r : Result Status Fault) : Type 0 where
  pub errors : r ≡ Ok Status.Errors → w.taken now ≡ w.taken was
  pub clean : MatchResult r
      (λ status. status ≡ Status.Success → TakesClean serial (λ bytes. Takes (w.taken was) (w.taken now) bytes) (m.taken before)
      (m.taken after))
      (λ fault. IfStory fault (λ n. TakesClean serial (λ bytes. TakesPart (Some bytes) n (w.taken was) (w.taken now)) (m.taken before)
      (m.taken after)))
  pub seen : TellsEachRead r (f.faults old) (f.faults new)
  pub quiet : HidesNoFailure r (m.failures before) (m.failures after)
  pub fault : IfErr r (λ fault. HasCause fault (λ name. IsUnread f old new) (Rose (m.failures before) (m.failures after))
      (λ n. Rose (w.failures was) (w.failures now)))
  pub untouched : IfErr r (λ fault. UnlessStory fault ((w.taken now ≡ w.taken was) × (w.failures now ≡ w.failures was)))
