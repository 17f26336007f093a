-- The routines that the compiler supplies: behind the program of a source, each routine that is used and not declared is read from a text of
-- its own, in the order of their numbers, and the text is a program, too.
use Rattle.std.specs.Prelude.{◌≡◌, ℕ, max, Option, Some, None, true, false}
use Rattle.inf_settings.specs.Bounds.{Limits}
use Rattle.inf_devices.specs.Files.{Sources}
use Rattle.inf_unit.specs.Messages.{veneer_file}
use Rattle.inf_conditional_sides.specs.Sides.{no_sides}
use Rattle.inf_reader.specs.{Reading.between, declared.recovery.Recovery.Recovery}
use Rattle.inf_session.specs.{Choices.Choices, Choices.most_quoted, Veneer.next_text, Veneer.veneer_text}
use Rattle.inf_program.specs.{definition.Program.IsProgram, definition.States.State}

-- The state at the front of the text of a routine, where nothing of the source is open. The text is on the line of the routine's number, in
-- a file of its own. Its conditionals ask for the names that were declared before it.
abbrev pub text_start : Choices → ℕ → State → State
text_start o number s = record {
  nesting = record s.nesting {
    cursor = record {
      rest = veneer_text number;
      lines = record { line = number; after_return = false };
      file = veneer_file;
      set = s.nesting.cursor.set;
      limit = most_quoted o;
    };
  };
  sides = no_sides;
  declared = s.work.output.names.declared;
  most_tokens = 0;
  reading = between Recovery.Reads;
  work = record s.work { most_tokens = max s.work.most_tokens s.most_tokens; is_system = false };
  is_over = false;
  is_supplied = true;
}

-- the state behind a text, by the state in which the reading of it ended
abbrev pub text_end : State → State → State
text_end s final = record s { most_tokens = final.most_tokens; work = final.work }

-- the number of the first routine behind another that is used and not declared; none behind a fatal message
abbrev pub next_behind : ℕ → State → Option ℕ
next_behind number s = next_text s.work.report.counts.is_over number s.work.output.names

-- Of the routines behind a number, those that are used and not declared are read one behind the other, up to the state `end`, in which none
-- is left, or a fatal message has come.
pub data AreSupplied (limits : Limits) (sources : Sources) (o : Choices) (end : State) : ℕ → State → Type 0 where
  NoMore : {number : ℕ} {s : State} → next_behind number s ≡ None → s ≡ end → AreSupplied limits sources o end number s
  Supplies : {number next : ℕ} {s final : State} → next_behind number s ≡ Some next
      → IsProgram limits sources o final (text_start o next s) → AreSupplied limits sources o end next (text_end s final)
      → AreSupplied limits sources o end number s
