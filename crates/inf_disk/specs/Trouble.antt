-- Failures of a device of the system at a call that gives or takes bytes.
use Rattle.std.specs.{declared.io.ErrorKind.ErrorKind, Prelude.◌≡◌, Prelude.◌≤◌, Prelude.◌<◌, Prelude.ℕ, Prelude.IsErr}
use Rattle.std.specs.Prelude.{IsOk, IsSome, IfOk, OnOk, Result, Ok, Some}
use Rattle.inf_devices.specs.{Files.Rose, declared.files.ReadFault.ReadFault, declared.sinks.SinkFault.SinkFault}
use Rattle.inf_disk.specs.declared.disk.Trouble.{Trouble}

-- A read that failed is counted and has a reason, but a signal is none. One that did not leaves all as it was.
pub record ReadTrouble (result : Result ℕ ReadFault) (old new : Trouble) : Type 0 where
  pub failed : IsErr result → Rose old.failures new.failures
  pub reason : IsErr result → IsSome new.reason
  pub patient : IsErr result → ¬ (new.reason ≡ Some ErrorKind.Interrupted)
  pub kept : OnOk result (new ≡ old)
  pub calm : IsOk result → new.failures ≡ old.failures
  pub later : old.failures ≤ new.failures

-- A write that failed is counted and has a reason, and so is one that took nothing. Any other leaves all as it was.
pub record WriteTrouble (result : Result ℕ SinkFault) (old new : Trouble) : Type 0 where
  pub failed : IsErr result → Rose old.failures new.failures
  pub reason : IsErr result → IsSome new.reason
  pub nothing : result ≡ Ok 0 → Rose old.failures new.failures
  pub empty : result ≡ Ok 0 → new.reason ≡ Some ErrorKind.WriteZero
  pub kept : IfOk result (λ n. 0 < n → new ≡ old)
  pub calm : IfOk result (λ n. 0 < n → new.failures ≡ old.failures)
  pub later : old.failures ≤ new.failures
