-- The turns of a source go by sides: they lead to the state to which turns by the sides of conditionals lead, with conditionals for which these
-- sides stand.
use Rattle.std.specs.Prelude.{◌≡◌, ℕ, List, [], false}
use Rattle.inf_settings.specs.Bounds.{Limits, limits_of}
use Rattle.inf_devices.specs.Files.{Sources}
use Rattle.inf_conditionals.specs.Open.{Conditions}
use Rattle.inf_conditional_sides.specs.{Judged.Agree, Judged.given_of, Sides.heard}
use Rattle.inf_session.specs.Choices.{Choices}
use Rattle.inf_session.specs.Session.{State as TurnState, start as turn_start, stepped as turn_stepped, token_of}
use Rattle.inf_program.specs.{SideTurns.position_of, SideTurns.side_run, Turns.judgement, Writing.silent_run as turn_run}
use Rattle.inf_program.specs.{definition.NextToken.step_at, definition.States.State, definition.States.has_ended, definition.States.start}

-- the state of a turn, by its conditionals and the number of bytes of the longest quoted token, where no message was written
abbrev pub with_conditions : Conditions → ℕ → State → TurnState
with_conditions c quoted s = record {
  nesting = s.nesting;
  conditions = c;
  reading = s.reading;
  work = s.work;
  told = [];
  is_over = s.is_over;
  quoted = quoted;
  passed = 0;
}

-- A state of turns and one by sides are the same but for the conditionals. Where reading goes on, the sides stand for these, and the same
-- things are given of the next token by both; where nothing is given, a turn leaves the reading as it is.
pub record AreAlike (limits : Limits) (o : Choices) (t : TurnState) (s : State) : Type 0 where
  pub conditions : Conditions
  pub quoted : ℕ
  pub same : t ≡ with_conditions conditions quoted s
  pub most : conditions.most_tokens ≡ s.most_tokens
  pub agree : has_ended s ≡ false → Agree conditions s.sides
  pub given : has_ended s ≡ false
      → given_of (token_of t) (judgement o t) ≡ heard (position_of s.reading).is_passed (step_at (position_of s.reading) s).given
  pub still : has_ended s ≡ false → (step_at (position_of s.reading) s).given ≡ [] → (turn_stepped limits o t).reading ≡ t.reading

abbrev pub TurnsGoBySides : Type 0
TurnsGoBySides =
    (sources : Sources) (o : Choices) (name : List ℕ) (n : ℕ)
    → AreAlike (limits_of o.settings) o (turn_run (limits_of o.settings) sources o n (turn_start sources o name))
    (side_run (limits_of o.settings) sources o n (start sources o name))
