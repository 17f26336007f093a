-- Turns of a reading by the sides of conditionals: each takes a token as the machine of the grammar does, and writes no message.
use Rattle.std.specs.Prelude.{◌≡◌, ℕ, zero, suc, List, false, if◌then◌else◌}
use Rattle.inf_settings.specs.Bounds.{Limits}
use Rattle.inf_devices.specs.Files.{Sources}
use Rattle.inf_reader.specs.{Handing.is_between, Handing.skips, Reading.ReaderState, Reading.Reading, Reading.is_mode_ended}
use Rattle.inf_session.specs.Choices.{Choices}
use Rattle.inf_program.specs.{Turns.steps_by, definition.Steps.Step}
use Rattle.inf_program.specs.definition.NextToken.{Position, behind_at, position, steps_at}
use Rattle.inf_program.specs.definition.States.{AsksNothing, State, context_of, followed, has_ended, is_resting}

-- the position at which the next token comes
abbrev pub position_of : Reading → Position
position_of r = position (is_between r) (skips r.mode)

-- the reading of the next token, and the compiled work
abbrev pub stand_of : State → ReaderState
stand_of s = record { reading = s.reading; work = s.work }

-- the steps of the next token
abbrev pub side_steps : Limits → Choices → State → List Step
side_steps limits o s = steps_at limits o (position_of s.reading) s

-- the reading and the work behind the next token
abbrev pub stand_behind : Limits → Choices → State → ReaderState
stand_behind limits o s = steps_by limits (context_of o s) (side_steps limits o s) (stand_of s)

-- the state after the next token is taken
abbrev pub stepped : Limits → Choices → State → State
stepped limits o s =
    let x = stand_behind limits o s in record (behind_at o (position_of s.reading) x.work s) { reading = x.reading }

abbrev pub side_turn : Limits → Sources → Choices → State → State
side_turn limits sources o s = followed sources o (stepped limits o s)

abbrev pub side_run : Limits → Sources → Choices → ℕ → State → State
side_run limits sources o zero s = s
side_run limits sources o (suc n) s = if has_ended s then s else side_run limits sources o n (side_turn limits sources o s)

abbrev pub side_turned : Limits → Sources → Choices → ℕ → State → State
side_turned limits sources o zero s = s
side_turned limits sources o (suc n) s = side_turned limits sources o n (side_turn limits sources o s)

-- Behind a turn nothing else happens: no fatal message came, no file ends, no directive asks for anything, and no piece has ended.
pub record IsQuietBySide (s : State) : Type 0 where
  pub is_not_over : s.work.report.counts.is_over ≡ false
  pub has_more : is_mode_ended s.reading.mode ≡ false
  pub asks_nothing : AsksNothing s
  pub is_inside : is_resting s ≡ false
