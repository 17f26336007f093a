-- The states to which a reading comes, turn by turn and with the supplied routines behind it.
use Rattle.std.specs.Prelude.{List, ℕ}
use Rattle.inf_settings.specs.Bounds.{limits_of}
use Rattle.inf_devices.specs.Files.{Sources}
use Rattle.inf_session.specs.{Choices.Choices, Veneer.next_supplied, Veneer.supplied, Veneer.text_read}
use Rattle.inf_session.specs.Session.{State, part, run, start, turn}

-- A state comes behind another one, by turns and by supplied routines that are read, or is that one.
pub data IsBehind (sources : Sources) (o : Choices) (s : State) : State → Type 0 where
  Here : IsBehind sources o s s
  Turns : {t : State} → IsBehind sources o s t → IsBehind sources o s (turn (limits_of o.settings) sources o t)
  Supplies : {t : State} (number : ℕ) → IsBehind sources o s t → IsBehind sources o s (text_read (limits_of o.settings) o number t)

-- A state comes behind the start of the main source of a name.
abbrev pub IsReached : Sources → Choices → List ℕ → State → Type 0
IsReached sources o name s = IsBehind sources o (start sources o name) s

-- States come behind the one from which some turns, a part, and supplied routines lead to them: the next one, and the rest of these.
pub record StatesComeBehind (sources : Sources) (o : Choices) : Type 0 where
  pub turns : (n : ℕ) (s : State) → IsBehind sources o s (run (limits_of o.settings) sources o n s)
  pub part : (n : ℕ) (s : State) → IsBehind sources o s (part (limits_of o.settings) sources o n s)
  pub next : (s : State) → IsBehind sources o s (next_supplied (limits_of o.settings) o s)
  pub rest : (s : State) → IsBehind sources o s (supplied (limits_of o.settings) o s)
  pub both : (s t u : State) → IsBehind sources o s t → IsBehind sources o t u → IsBehind sources o s u
