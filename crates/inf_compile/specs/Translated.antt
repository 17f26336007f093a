-- The outcome of the translation of a source, from the state in which its reading begins, and the state in which it leaves its devices.
use Rattle.std.specs.Prelude.{◌≡◌, ℕ, List, [], Option, None, IfErr, IfOk, OnErr, Result}
use Rattle.inf_devices.specs.{Files.Openings, Files.Rose, Files.Sources, declared.files.Files.Ghosts as Files, declared.sinks.Sink.Ghosts as Sink}
use Rattle.inf_sources.specs.{Calls.IsUnreadable, Calls.StaysFit, Calls.Went, Open.Open, Open.opened_since}
use Rattle.inf_session.specs.{Choices.Choices, Leading.OpensAll, Session.State, Session.run}
use Rattle.inf_ending.specs.{Delivered.SucceedsClean, Faults.Caused, Faults.HidesNoFailure, Faults.IfRead, Faults.TellsEachRead}
use Rattle.inf_ending.specs.declared.{compiled.Compiled.Compiled, compiled.Status.Status, faults.Fault.Fault}
use Rattle.inf_settings.specs.Bounds.{Limits}
use Rattle.inf_compile.specs.{Comes.Concludes, Comes.Stops, Comes.StopsEarly, Compiling.IfMemory}

-- With an honest reader, a translation from the state `was` on has the outcome of the source, and its messages were written; or some front
-- of them, where a fault is returned. `unread` is told of a file that was not read.
pub record Translated (limits : Limits) (sources : Sources) (o : Choices) (serial : List ℕ) (was : List ℕ → State) (start now : Openings)
    (f : Open) (before after : Option (List ℕ)) (unread : List ℕ → Type 0) (r : Result Compiled Fault) : Type 0 where
  pub concludes : IfOk r (λ compiled. Concludes limits sources o serial (was []) start now f before after compiled)
  pub stops : OnErr r (Stops limits sources o serial (was []) before after)
  pub early : IfErr r (λ fault. IfMemory fault (StopsEarly limits sources o (was []) before after))
  pub heard : IfErr r (λ fault. IfRead fault unread)
  pub opened : OnErr r ((turns : ℕ) × OpensAll (run limits sources o turns) was (opened_since start now))

-- With any reader and any sink, a translation keeps the files that are open, no story comes with an error, and a fault has its cause.
pub record Leaves {S M : Type 0} (f : Files S) (m : Sink M) (old new : S) (before after : Open) (told written : M) (serial : List ℕ)
    (r : Result Compiled Fault) : Type 0 where
  pub went : Went f old new before after
  pub fits : IfOk r (λ compiled. StaysFit f old new before)
  pub seen : TellsEachRead r (f.faults old) (f.faults new)
  pub errors : IfOk r (λ compiled. compiled.status ≡ Status.Errors → compiled.story ≡ None)
  pub clean : IfOk r (λ compiled. SucceedsClean serial compiled (m.taken told) (m.taken written))
  pub fault : IfErr r (λ fault. Caused fault (λ name. IsUnreadable f old new before after) (Rose (m.failures told) (m.failures written)))
  pub quiet : HidesNoFailure r (m.failures told) (m.failures written)
