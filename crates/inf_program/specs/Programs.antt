-- Programs and turns of a reading: the turns of a source do what its program does, and a source has one program at most.
use Rattle.std.specs.Prelude.{◌≡◌, ℕ, List, Some, true, false}
use Rattle.inf_settings.specs.Bounds.{Limits, limits_of}
use Rattle.inf_devices.specs.Files.{Sources}
use Rattle.inf_session.specs.Choices.{Choices}
use Rattle.inf_compile.specs.Outcome.{IsOutcome}
use Rattle.inf_program.specs.{SideTurns.side_run, definition.NextToken.afresh, definition.Program.IsProgram}
use Rattle.inf_program.specs.{definition.Supplied.AreSupplied, definition.Written.ending}
use Rattle.inf_program.specs.definition.States.{State, has_ended, start}

-- Some turns end reading in the state `final`, but for the rest of a piece that is broken off there.
pub record EndsAs (limits : Limits) (sources : Sources) (o : Choices) (final s : State) : Type 0 where
  pub turns : ℕ
  pub ends : has_ended (side_run limits sources o turns s) ≡ true
  pub same : afresh (side_run limits sources o turns s) ≡ afresh final

-- Turns, whose messages are still to be written, do what a program does.
abbrev pub TurnsDoPrograms : Limits → Type 0
TurnsDoPrograms limits =
    (sources : Sources) (o : Choices) (final s : State) → IsProgram limits sources o final s → EndsAs limits sources o final s

-- All programs from a state on end in the same state.
abbrev pub ProgramsEndInOneWay : Limits → Type 0
ProgramsEndInOneWay limits =
    (sources : Sources) (o : Choices) (first second s : State) → IsProgram limits sources o first s → IsProgram limits sources o second s
    → afresh first ≡ afresh second

-- The ending behind the program of a main source and the supplied routines is the outcome of the source, unless reading ends before its
-- first token.
abbrev pub ProgramsHaveTheirOutcome : Type 0
ProgramsHaveTheirOutcome =
    (sources : Sources) (o : Choices) (serial name source : List ℕ) (final end : State) → sources name ≡ Some source
    → has_ended (start sources o name) ≡ false → IsProgram (limits_of o.settings) sources o final (start sources o name)
    → AreSupplied (limits_of o.settings) sources o end 0 final
    → IsOutcome sources o serial name (ending (limits_of o.settings) serial end)
