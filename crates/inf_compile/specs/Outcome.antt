-- The outcome of a compilation: the lines of its messages, its story or none, and its status.
use Rattle.std.specs.Prelude.{◌≡◌, ℕ, List, ◌++◌, Option, Some, None}
use Rattle.inf_settings.specs.Bounds.{limits_of, Limits}
use Rattle.inf_devices.specs.Files.{Sources}
use Rattle.inf_session.specs.{Choices.Choices, Session.IsRead, Session.State, Session.start, Veneer.supplied}
use Rattle.inf_ending.specs.Ending.{Outcome, finished, missing}

-- The ending of a compilation whose source was read to this state: the used part of the veneer is read, and then the compilation ends.
-- The messages that were written before come first.
abbrev pub ending_of : Limits → Choices → List ℕ → State → Outcome
ending_of limits o serial s =
    let v = supplied limits o s in let e = finished limits serial v.nesting.names v.work in
    record e { messages = v.told ++ e.messages }

-- The outcome of a main source that is there: reading ends, and the outcome is its ending.
pub record IsCompiled (sources : Sources) (o : Choices) (serial name : List ℕ) (e : Outcome) : Type 0 where
  pub final : State
  pub is_read : IsRead (limits_of o.settings) sources o (start sources o name) final
  pub is_ending : e ≡ ending_of (limits_of o.settings) o serial final

abbrev pub IsOutcomeOf : Option (List ℕ) → Sources → Choices → List ℕ → List ℕ → Outcome → Type 0
IsOutcomeOf None sources o serial name e = e ≡ missing name
IsOutcomeOf (Some source) sources o serial name e = IsCompiled sources o serial name e

-- The outcome of the main source of a name, among these sources and with these choices; the story has this serial number.
abbrev pub IsOutcome : Sources → Choices → List ℕ → List ℕ → Outcome → Type 0
IsOutcome sources o serial name e = IsOutcomeOf (sources name) sources o serial name e
