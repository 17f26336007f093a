-- The messages of a reading may be written at any time: a reading that writes them behind each token, and one that writes none, lead to the
-- same state, but that the lines of the second are still to be written.
use Rattle.std.specs.Prelude.{◌≡◌, ℕ, zero, suc, List, [], if◌then◌else◌}
use Rattle.inf_settings.specs.Bounds.{Limits}
use Rattle.inf_devices.specs.Files.{Sources}
use Rattle.inf_session.specs.Choices.{Choices}
use Rattle.inf_session.specs.Session.{State, followed, has_ended, run, stepped, turn}
use Rattle.inf_laws.specs.KeptTurns.{turned}
use Rattle.inf_message_laws.specs.Growing.{with_lines_before}

-- State with some lines before those that are still to be written, where other lines were written.
abbrev pub with_lines : List ℕ → List ℕ → State → State
with_lines lines told s = record s { work = with_lines_before lines s.work; told = told }

-- State where no line was written: those that were are still to be written, before the others.
abbrev pub unwritten : State → State
unwritten s = with_lines s.told [] s

-- Definitions of turns that write no line

abbrev pub silent_turn : Limits → Sources → Choices → State → State
silent_turn limits sources o s = followed sources o (stepped limits o s)

abbrev pub silent_run : Limits → Sources → Choices → ℕ → State → State
silent_run limits sources o zero s = s
silent_run limits sources o (suc n) s = if has_ended s then s else silent_run limits sources o n (silent_turn limits sources o s)

abbrev pub silent_turned : Limits → Sources → Choices → ℕ → State → State
silent_turned limits sources o zero s = s
silent_turned limits sources o (suc n) s = silent_turned limits sources o n (silent_turn limits sources o s)

-- A turn, `n` turns, and turns up to the end of the reading, lead to the state to which silent ones lead, with the lines that were written
-- before the others.
pub record LinesAreWrittenAtAnyTime (limits : Limits) : Type 0 where
  pub one : (sources : Sources) (o : Choices) (s : State)
      → unwritten (turn limits sources o s) ≡ silent_turn limits sources o (unwritten s)
  pub turns : (sources : Sources) (o : Choices) (n : ℕ) (s : State)
      → unwritten (turned limits sources o n s) ≡ silent_turned limits sources o n (unwritten s)
  pub all : (sources : Sources) (o : Choices) (n : ℕ) (s : State)
      → unwritten (run limits sources o n s) ≡ silent_run limits sources o n (unwritten s)
