-- The outcome of a source is the one that its program gives: for all sources, choices, serial numbers and names there is one, and just one.
use Rattle.std.specs.Prelude.{◌≡◌, ◌↔◌, ℕ, List}
use Rattle.inf_devices.specs.Files.{Sources}
use Rattle.inf_session.specs.Choices.{Choices}
use Rattle.inf_ending.specs.Ending.{Outcome}
use Rattle.inf_compile.specs.Outcome.{IsOutcome}
use Rattle.inf_program.specs.definition.Written.{IsWritten}

pub record OutcomesAreWritten : Type 0 where
  pub same : (sources : Sources) (o : Choices) (serial name : List ℕ) (e : Outcome)
      → IsOutcome sources o serial name e ↔ IsWritten sources o serial name e
  pub exist : (sources : Sources) (o : Choices) (serial name : List ℕ) → (e : Outcome) × IsWritten sources o serial name e
  pub unique : (sources : Sources) (o : Choices) (serial name : List ℕ) (e f : Outcome) → IsWritten sources o serial name e
      → IsWritten sources o serial name f → e ≡ f
