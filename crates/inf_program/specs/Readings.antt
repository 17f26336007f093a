-- Readings are programs; so each main source has one, and each text of a supplied routine.
use Rattle.std.specs.Prelude.{◌≡◌, ℕ, List, Some, true}
use Rattle.inf_settings.specs.Bounds.{Limits, limits_of}
use Rattle.inf_devices.specs.Files.{Sources}
use Rattle.inf_session.specs.Choices.{Choices}
use Rattle.inf_reader.specs.{Reading.between, declared.recovery.Recovery.Recovery}
use Rattle.inf_program.specs.{Regular.AreRegular, SideTurns.side_run, definition.NextToken.afresh, definition.Program.IsProgram}
use Rattle.inf_program.specs.definition.States.{State, has_ended, start}
use Rattle.inf_program.specs.definition.Supplied.{AreSupplied, text_start}

-- A program from a state on that ends as `n` turns do, but for the rest of a piece that is broken off there.
pub record ProgramOf (limits : Limits) (sources : Sources) (o : Choices) (n : ℕ) (s : State) : Type 0 where
  pub final : State
  pub is_program : IsProgram limits sources o final s
  pub same : afresh (side_run limits sources o n s) ≡ afresh final

-- Where regular turns from a state between two pieces end reading, they are a program.
abbrev pub RegularReadingsArePrograms : Limits → Type 0
RegularReadingsArePrograms limits =
    (sources : Sources) (o : Choices) (n : ℕ) (s : State) → s.reading ≡ between Recovery.Reads → AreRegular limits sources o n s
    → has_ended (side_run limits sources o n s) ≡ true → ProgramOf limits sources o n s

-- Each turn of the reading of a main source is regular.
abbrev pub SourcesAreRegular : Type 0
SourcesAreRegular =
    (sources : Sources) (o : Choices) (name : List ℕ) (n : ℕ) → AreRegular (limits_of o.settings) sources o n (start sources o name)

-- A main source has a program.
abbrev pub SourcesHavePrograms : Type 0
SourcesHavePrograms =
    (sources : Sources) (o : Choices) (name source : List ℕ) → sources name ≡ Some source
    → (final : State) × IsProgram (limits_of o.settings) sources o final (start sources o name)

-- The reading of the text of a supplied routine, behind any state. Each turn of it is regular, and it is a program. So the supplied routines
-- behind any number are read up to some end.
pub record TextsArePrograms (limits : Limits) : Type 0 where
  pub regular : (sources : Sources) (o : Choices) (number n : ℕ) (s : State) → AreRegular limits sources o n (text_start o number s)
  pub programs : (sources : Sources) (o : Choices) (number : ℕ) (s : State)
      → (final : State) × IsProgram limits sources o final (text_start o number s)
  pub all : (sources : Sources) (o : Choices) (number : ℕ) (s : State) → (end : State) × AreSupplied limits sources o end number s
