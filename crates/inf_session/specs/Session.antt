-- The reading of a source with the files that it includes: token by token of the innermost file. Conditionals choose which tokens
-- the grammar sees. A directive may ask for another file, which is read before the tokens that follow the directive, or that
-- reading ends. Where the end of an included file was read, reading goes on in the file that includes it. Designer's Manual, fourth
-- edition, sections 38 and 39.
use Rattle.std.specs.Prelude.{◌≡◌, ℕ, List, [], ◌∷◌, ◌++◌, nat_lt, Option, Some, None, Bool, true, false, ◌&&◌, ◌||◌}
use Rattle.std.specs.Prelude.{if◌then◌else◌, zero, suc}
use Rattle.inf_settings.specs.{Bounds.Limits, Settings.number_of, declared.setting.Setting.Setting, declared.settings.Settings.Settings}
use Rattle.inf_scanner.specs.declared.tokens.Place.{Place}
use Rattle.inf_devices.specs.Files.{Sources}
use Rattle.inf_conditionals.specs.{Judging.is_none_pending, Judging.may_part, Open.Conditions, Open.no_conditions}
use Rattle.inf_conditionals.specs.Ends.{file_ended, file_told, piece_ended, piece_told, with_among}
use Rattle.inf_report.specs.Messages.{Message, NoInclude, TooManyFiles}
use Rattle.inf_letters.specs.Letters.{set_of}
use Rattle.inf_sources.specs.{Choosing.nesting_with, Cursors.behind, Cursors.read, Heading.past_head, declared.open_files.Included.Included}
use Rattle.inf_sources.specs.Inclusions.{Inclusion, Nesting, Opens, OpensNone, Waiting, inclusion, main_opened, resumed, with_opened}
use Rattle.inf_compilation.specs.{Actions.Compilation, Actions.letters_chosen, Context.Context}
use Rattle.inf_unit.specs.Directives.{Request, Nothing, Include, End, Characters}
use Rattle.inf_unit.specs.Messages.{FileNames, flushed, location, with_fatal, with_full}
use Rattle.inf_unit.specs.Tokens.{SourceToken}
use Rattle.inf_reader.specs.{Handing.is_between, declared.recovery.Recovery.Recovery}
use Rattle.inf_reader.specs.Reading.{Reading, ReaderState, begun_stand, has_ended_at, is_mode_ended}
use Rattle.inf_session.specs.{Choices.Choices, Choices.most_quoted, Taking.token_at, Taking.token_taken}
use Rattle.inf_ending.specs.Ending.{first_place}

-- The files that are open, each with the bytes that are still to come of it; the conditionals; how the next token is read; the
-- compiled work, with the messages that are not written yet; the messages that are written; whether all reading has ended but for
-- the veneer's; the number of bytes of the longest quoted token; and the number of the last routine of the veneer that was read.
pub record State : Type 0 where
  pub nesting : Nesting
  pub conditions : Conditions
  pub reading : Reading
  pub work : Compilation
  pub told : List ℕ
  pub is_over : Bool
  pub quoted : ℕ
  pub passed : ℕ

-- The setting that the first objects or the first low string alone would pass, which is told before the first token. Each story has
-- four objects, whose property tables have 30 bytes and their addresses four references, and a low string of two bytes.
abbrev pub tables_full : Settings → Option Setting
tables_full settings = if nat_lt (number_of Setting.Objects settings) 4 then Some Setting.Objects else
    if nat_lt (number_of Setting.PropertyTables settings) 30 then Some Setting.PropertyTables else
    if nat_lt (number_of Setting.LowStrings settings) 2 then Some Setting.LowStrings else
    if nat_lt (number_of Setting.References settings) 4 then Some Setting.References else None

-- the reading of the first token of a main source, and the work before it, for which the chosen letters hold
abbrev pub begun_with : Choices → FileNames → ReaderState
begun_with o names =
    let s = begun_stand o.settings in let w = letters_chosen o.letters s.work in
    record s { work = record w { report = with_full names first_place (tables_full o.settings) w.report } }

-- the state before the first token of the open files `n`, where the messages `told` were written
abbrev pub first_state : Choices → Nesting → List ℕ → State
first_state o n told =
    let s = begun_with o n.names in
    record {
      nesting = n;
      conditions = no_conditions;
      reading = s.reading;
      work = s.work;
      told = told;
      is_over = false;
      quoted = 0;
      passed = 0;
    }

-- the state before the first token of the main source with the name `name`: behind its head
abbrev pub start : Sources → Choices → List ℕ → State
start sources o name = first_state o (past_head (main_opened (set_of o.letters) (most_quoted o) sources name)) []

-- the reading of the next token, and the compiled work
abbrev pub stand_of : State → ReaderState
stand_of s = record { reading = s.reading; work = s.work }

-- the context that is handed down to all that is compiled: its character set is the one by which the innermost file is read
abbrev pub context_of : Choices → State → Context
context_of o s = record { names = s.nesting.names; set = s.nesting.cursor.set; settings = o.settings }

-- Nothing is read behind the end of the main source, a fatal message, or a directive that ends all.
abbrev pub has_ended : State → Bool
has_ended s = s.is_over || has_ended_at (stand_of s)

-- the next token of the innermost file
abbrev pub token_of : State → SourceToken
token_of s =
    let r = read s.nesting.cursor in
    token_at (is_between s.reading) r.kind r.kept.bytes (record { file = s.nesting.cursor.file; line = r.line }) s.work

-- the state after the next token is taken
abbrev pub stepped : Limits → Choices → State → State
stepped limits o s =
    let n = token_taken limits (context_of o s) (token_of s) s.conditions (stand_of s) s.quoted in
    record {
      nesting = record s.nesting { cursor = behind s.nesting.cursor (read s.nesting.cursor) };
      conditions = n.conditions;
      reading = n.stand.reading;
      work = n.stand.work;
      told = s.told;
      is_over = s.is_over;
      quoted = n.quoted;
      passed = s.passed;
    }

-- The state where the conditionals that are open in a file are told, at its end.
abbrev pub file_closed : State → State
file_closed s = record s {
  conditions = file_ended s.conditions;
  work = record s.work { report = file_told s.nesting.names s.conditions s.work.report };
}

-- The state where an included file is closed then, and reading goes on in the one that includes it, as that was.
abbrev pub left_by : List Waiting → State → State
left_by [] s = s
left_by (w ∷ waiting) s = record s {
  nesting = resumed (w ∷ waiting) s.nesting;
  conditions = with_among w.conditionals s.conditions;
  reading = record s.reading { mode = Recovery.Reads };
  work = record s.work { is_system = w.is_system };
}

abbrev pub left : State → State
left s = left_by s.nesting.waiting (file_closed s)

-- the state with a fatal message, at the place of the unit that asks for a file
abbrev pub refused_with : Place → Message → State → State
refused_with unit m s = record s { work = record s.work { report = with_fatal (location s.nesting.names unit) m s.work.report } }

-- the state where the reason is told why no file is opened for a text
abbrev pub none_included : Place → List ℕ → Included → State → State
none_included unit text Included.Entered s = s
none_included unit text Included.NotThere s = refused_with unit (NoInclude text) s
none_included unit text Included.TooDeep s = refused_with unit TooManyFiles s

-- the state in a file that was entered: no conditional is open, and no routine may be replaced yet
abbrev pub file_begun : State → State
file_begun s = record s { conditions = with_among [] s.conditions; work = record s.work { is_system = false } }

-- the state where the file that an inclusion opens is the innermost, and is read by the character set of the one that includes it
abbrev pub included_by : Sources → Choices → Place → List ℕ → Inclusion → State → State
included_by sources o unit text (Opens name) s = file_begun (record s {
  nesting = with_opened s.nesting.cursor.set (most_quoted o) sources s.conditions.among s.work.is_system name s.nesting;
})
included_by sources o unit text (OpensNone why) s = none_included unit text why s

-- the state where the file that the text of an inclusion names is entered, for a unit at a place
abbrev pub included : Sources → Choices → Place → List ℕ → State → State
included sources o unit text s = included_by sources o unit text (inclusion sources o.directories text s.nesting) s

-- the state in which nothing is asked any more
abbrev pub asked_nothing : State → State
asked_nothing s = record s { work = record s.work { asked = Nothing } }

-- the state after a request of a directive to the reading
abbrev pub answered : Request → Sources → Choices → State → State
answered (Include text unit) sources o s = included sources o unit text s
answered End sources o s = record s { is_over = true }
answered (Characters set) sources o s = record s { nesting = nesting_with set s.nesting }
answered Nothing sources o s = s

-- the state behind a token: behind a fatal message nothing is done, and at the end of a file nothing is asked
abbrev pub carried_out : Sources → Choices → State → State
carried_out sources o s = if s.work.report.counts.is_over then s else
    if is_mode_ended s.reading.mode then left s else answered s.work.asked sources o (asked_nothing s)

-- whether the reading is between two directives, and in no conditional one
abbrev pub is_resting : State → Bool
is_resting s = is_between s.reading && is_none_pending s.conditions.pending

-- The state where the conditionals that are open in a directive are told, behind its end.
abbrev pub piece_closed : State → State
piece_closed s = record s {
  conditions = piece_ended s.work.output.names.declared s.conditions;
  work = record s.work { report = piece_told s.nesting.names s.conditions s.work.report };
}

abbrev pub rested : State → State
rested s = if has_ended s then s else if is_resting s then piece_closed s else s

-- the state where reading goes on behind a token
abbrev pub followed : Sources → Choices → State → State
followed sources o s = rested (carried_out sources o s)

-- the state where the messages so far are written
abbrev pub told_out : State → State
told_out s = record s { work = record s.work { report = flushed s.work.report }; told = s.told ++ s.work.report.lines }

-- the state after one turn, which takes a token, does as it asks, and writes the messages
abbrev pub turn : Limits → Sources → Choices → State → State
turn limits sources o s = told_out (followed sources o (stepped limits o s))

-- A part ends between two directives; a part with a conditional one ends behind the side that it leaves out.
abbrev pub is_parted : State → Bool
is_parted s = has_ended s || (is_between s.reading && may_part s.conditions)

-- at most `n` turns, up to the end of a part
abbrev pub part : Limits → Sources → Choices → ℕ → State → State
part limits sources o zero s = s
part limits sources o (suc n) s = if has_ended s then s else
    if is_parted (turn limits sources o s) then turn limits sources o s else part limits sources o n (turn limits sources o s)

-- at most `n` turns
abbrev pub run : Limits → Sources → Choices → ℕ → State → State
run limits sources o zero s = s
run limits sources o (suc n) s = if has_ended s then s else run limits sources o n (turn limits sources o s)

-- Reading ends in the state `final`: some turns lead there, and it is an end.
pub record IsRead (limits : Limits) (sources : Sources) (o : Choices) (s final : State) : Type 0 where
  pub turns : ℕ
  pub leads : run limits sources o turns s ≡ final
  pub ends : has_ended final ≡ true
