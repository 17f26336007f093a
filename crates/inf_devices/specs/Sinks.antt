-- The statements of a sink on the bytes that it took.
use Rattle.std.specs.Prelude.{◌≡◌, ℕ, List, ◌++◌, take, Option, Some, None, Result, Ok, Err}
use Rattle.inf_devices.specs.declared.sinks.SinkFault.{SinkFault}

-- The bytes taken, where they are known: these were added behind those taken before.
abbrev pub Takes : Option (List ℕ) → Option (List ℕ) → List ℕ → Type 0
Takes None new bytes = new ≡ None
Takes (Some old) new bytes = new ≡ Some (old ++ bytes)

-- the bytes that were taken after a write, by its answer: the count is of those that were taken of `bytes`, from the front
abbrev pub Writes : Option (List ℕ) → Option (List ℕ) → List ℕ → Result ℕ SinkFault → Type 0
Writes old new bytes (Ok n) = Takes old new (take n bytes)
Writes old new bytes (Err _) = new ≡ old
