-- Regular turns: a directive asks for something at the end of its piece alone.
use Rattle.std.specs.Prelude.{◌≡◌, ◌||◌, ℕ, zero, suc, false}
use Rattle.inf_settings.specs.Bounds.{Limits}
use Rattle.inf_devices.specs.Files.{Sources}
use Rattle.inf_reader.specs.{Handing.is_between, Reading.is_mode_ended}
use Rattle.inf_session.specs.Choices.{Choices}
use Rattle.inf_program.specs.definition.States.{AsksNothing, State, has_ended}
use Rattle.inf_program.specs.SideTurns.{side_turn, stepped}

pub record IsRegular (limits : Limits) (o : Choices) (s : State) : Type 0 where
  pub asks_at_ends : (is_between (stepped limits o s).reading || is_mode_ended (stepped limits o s).reading.mode) ≡ false
      → AsksNothing (stepped limits o s)

-- each of `n` turns is regular, up to the end of reading
abbrev pub AreRegular : Limits → Sources → Choices → ℕ → State → Type 0
AreRegular limits sources o zero s = Unit {0}
AreRegular limits sources o (suc n) s =
    has_ended s ≡ false → IsRegular limits o s × AreRegular limits sources o n (side_turn limits sources o s)
