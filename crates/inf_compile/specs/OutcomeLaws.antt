-- Laws of outcomes: there is one for all sources, choices, serial numbers and names, and just one.
use Rattle.std.specs.Prelude.{◌≡◌, ℕ, List}
use Rattle.inf_devices.specs.Files.{Sources}
use Rattle.inf_session.specs.Choices.{Choices}
use Rattle.inf_ending.specs.Ending.{Outcome}
use Rattle.inf_compile.specs.Outcome.{IsOutcome}

abbrev pub OutcomesAreUnique : Type 0
OutcomesAreUnique =
    (sources : Sources) (o : Choices) (serial name : List ℕ) (e f : Outcome) → IsOutcome sources o serial name e → IsOutcome sources o
    serial name f → e ≡ f

abbrev pub OutcomesExist : Type 0
OutcomesExist = (sources : Sources) (o : Choices) (serial name : List ℕ) → (e : Outcome) × IsOutcome sources o serial name e
