-- The reading of the routines that the compiler supplies where a source uses them and has none of its own.
use Rattle.std.specs.Prelude.{ℕ, ◌-◌, List, [], length, max, Bool, true, false, if◌then◌else◌, Option, Some, None, unwrap_or, zero, suc}
use Rattle.inf_settings.specs.Bounds.{Limits}
use Rattle.inf_scanner.specs.declared.tokens.Place.{Place}
use Rattle.inf_names.specs.{Symbols.Table, Symbols.found_in, declared.symbols.Found.Found}
use Rattle.inf_conditionals.specs.Open.{no_conditions}
use Rattle.inf_reader.specs.{Reading.between, declared.recovery.Recovery.Recovery}
use Rattle.inf_session.specs.Choices.{Choices, most_quoted}
use Rattle.inf_session.specs.Session.{State, has_ended, rested, stepped, told_out}
use Rattle.inf_sources.specs.Cursors.{Cursor}
use Rattle.inf_text_lexer.specs.TextReaders.{TextReader, at_line}
use Rattle.inf_unit.specs.Messages.{veneer_file}
use Rattle.inf_veneer.specs.Texts.{name_of, text_of}

-- the number of the routines of the veneer
abbrev pub most_texts : ℕ
most_texts = 23

abbrev pub is_used : Found Place → Bool
is_used Found.Used = true
is_used (Found.Declared m place) = false
is_used (Found.System m) = false
is_used Found.Unknown = false

abbrev pub is_wanted_as : Option (List ℕ) → Table Place → Bool
is_wanted_as None names = false
is_wanted_as (Some name) names = is_used (found_in name names)

-- whether the routine of a number is used, and not declared
abbrev pub is_wanted : ℕ → Table Place → Bool
is_wanted n names = is_wanted_as (name_of n) names

-- the text of the routine of a number
abbrev pub veneer_text : ℕ → List ℕ
veneer_text n = unwrap_or (text_of n) []

-- the bytes that are still to come of a text
abbrev pub text_cursor : TextReader → Cursor
text_cursor l = record { rest = l.rest; lines = l.lines; file = l.file; set = l.set; limit = l.limit }

-- the state in which a text is read in place of the files
abbrev pub in_text : TextReader → State → State
in_text l s = record s { nesting = record s.nesting { cursor = text_cursor l } }

-- The state where a text begins and nothing of the source is open. The text is on the line of its number, in a file of its own. Its
-- conditionals ask for the names that were declared before it.
abbrev pub text_begun : State → State
text_begun s = record s {
  conditions = record no_conditions { declared = s.work.output.names.declared };
  reading = between Recovery.Reads;
  work = record s.work { most_tokens = max s.work.most_tokens s.conditions.most_tokens; is_system = false };
  is_over = false;
}

abbrev pub text_front : Choices → ℕ → State → TextReader
text_front o n s = at_line s.nesting.cursor.set (most_quoted o) veneer_file n (veneer_text n)

-- at most `n` tokens of a text are taken, up to its end or a fatal message
abbrev pub text_turns : Limits → Choices → ℕ → State → State
text_turns limits o zero s = s
text_turns limits o (suc n) s = if has_ended s then s else text_turns limits o n (rested (stepped limits o s))

-- The text of a number is read. Each of its tokens but the end has a byte at least. Its messages are written behind it, and then
-- all reading has ended again.
abbrev pub text_read : Limits → Choices → ℕ → State → State
text_read limits o n s =
    let t = text_turns limits o (suc (length (veneer_text n))) (in_text (text_front o n s) (text_begun s)) in
    record (told_out t) { nesting = s.nesting; is_over = true; passed = n }

-- The routines behind `n`, `left` of them at most, are read in their order, each where it is wanted, up to a fatal message.
abbrev pub supplied_by : Limits → Choices → ℕ → ℕ → State → State
supplied_by limits o zero n s = s
supplied_by limits o (suc left) n s = if s.work.report.counts.is_over then s else
    supplied_by limits o left (suc n) (if is_wanted (suc n) s.work.output.names then text_read limits o (suc n) s else s)

-- the rest of the routines is read
abbrev pub supplied : Limits → Choices → State → State
supplied limits o s = supplied_by limits o (most_texts - s.passed) s.passed s

-- the first routine that is wanted, of the `left` routines behind `n`
abbrev pub first_wanted : ℕ → ℕ → Table Place → Option ℕ
first_wanted zero n names = None
first_wanted (suc left) n names = if is_wanted (suc n) names then Some (suc n) else first_wanted left (suc n) names

-- the routine that is read next, where no fatal message came
abbrev pub next_text : Bool → ℕ → Table Place → Option ℕ
next_text is_fatal passed names = if is_fatal then None else first_wanted (most_texts - passed) passed names

abbrev pub supplied_at : Limits → Choices → Option ℕ → State → State
supplied_at limits o None s = s
supplied_at limits o (Some n) s = text_read limits o n s

-- the state after the next routine is read
abbrev pub next_supplied : Limits → Choices → State → State
next_supplied limits o s = supplied_at limits o (next_text s.work.report.counts.is_over s.passed s.work.output.names) s
