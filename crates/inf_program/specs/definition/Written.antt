-- The outcome of a source, as its program gives it: behind the program the supplied routines are read, and then the compilation ends.
use Rattle.std.specs.Prelude.{◌≡◌, ℕ, List, ◌++◌, Option, Some, None}
use Rattle.inf_settings.specs.Bounds.{Limits, limits_of}
use Rattle.inf_devices.specs.Files.{Sources}
use Rattle.inf_unit.specs.Messages.{flushed}
use Rattle.inf_session.specs.Choices.{Choices}
use Rattle.inf_ending.specs.Ending.{Outcome, finished, missing}
use Rattle.inf_program.specs.{definition.Program.IsProgram, definition.Supplied.AreSupplied}
use Rattle.inf_program.specs.definition.States.{State, start}

-- The ending behind all that was read: the messages of the reading, and then those of the ending, with the story and the status.
abbrev pub ending : Limits → List ℕ → State → Outcome
ending limits serial s =
    let e = finished limits serial s.nesting.names (record s.work { report = flushed s.work.report }) in
    record e { messages = s.work.report.lines ++ e.messages }

-- The ending of a program of a main source that is there. Where a setting is too small for any story, reading ends before the first token,
-- and the program has nothing.
pub record IsOutcomeOfProgram (sources : Sources) (o : Choices) (serial name : List ℕ) (e : Outcome) : Type 0 where
  pub final : State
  pub end : State
  pub is_program : IsProgram (limits_of o.settings) sources o final (start sources o name)
  pub are_supplied : AreSupplied (limits_of o.settings) sources o end 0 final
  pub is_ending : e ≡ ending (limits_of o.settings) serial end

abbrev pub IsWrittenOf : Option (List ℕ) → Sources → Choices → List ℕ → List ℕ → Outcome → Type 0
IsWrittenOf None sources o serial name e = e ≡ missing name
IsWrittenOf (Some source) sources o serial name e = IsOutcomeOfProgram sources o serial name e

-- The outcome of the main source of a name, among these sources and with these choices; the story has this serial number. A source that is
-- not there has a message, and no story.
abbrev pub IsWritten : Sources → Choices → List ℕ → List ℕ → Outcome → Type 0
IsWritten sources o serial name e = IsWrittenOf (sources name) sources o serial name e
