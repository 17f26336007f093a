-- The end of a compilation: the lines of its messages, its story or none, and its status.
use Rattle.std.specs.Prelude.{ℕ, List, length, Bool, true, false, not, ◌&&◌, ◌==◌, if◌then◌else◌, Option, Some, None, option_map, unwrap_or}
use Rattle.inf_settings.specs.Bounds.{Limits}
use Rattle.inf_area.specs.{Scales.most_bytes, declared.targets.Value.Value}
use Rattle.inf_code.specs.Code.{Routines}
use Rattle.inf_letters.specs.Letters.{counts}
use Rattle.inf_link.specs.{declared.header.HeaderFields.HeaderFields, declared.link.LinkFault.LinkFault, declared.link.Sizes.Sizes}
use Rattle.inf_output.specs.{Output.Out, Strings.StringArea}
use Rattle.inf_report.specs.Messages.{Location, NoMain, NoSource, NotConstant, ReadableTooLong, StoryTooLong}
use Rattle.inf_story.specs.{Names.values_of, Statistics.counts_of, Statistics.with_statistics, declared.statistics.Statistics.Statistics}
use Rattle.inf_story.specs.Stories.{story, story_sizes, too_long}
use Rattle.inf_compilation.specs.Actions.{Compilation, begun_at}
use Rattle.inf_unit.specs.Messages.{FileNames, Reported, location, nothing_reported, with_closing, with_error, with_fatal}
use Rattle.inf_unit.specs.Names.{main_of, with_all_undeclared}
use Rattle.inf_ending.specs.declared.{compiled.Status.Status, ending.Outcome.Outcome as CodeOutcome, ending.Telling.Telling}
use Rattle.inf_tables.specs.Tables.{AllTables}
use Rattle.inf_scanner.specs.declared.tokens.Place.{Place}

-- The place of messages about a whole source: its first line.
abbrev pub first_place : Place
first_place = record { file = 0; line = 1 }

-- the messages that are written, the story and the status
pub record Outcome : Type 0 where
  pub messages : List ℕ
  pub story : Option (List ℕ)
  pub status : Status

-- the outcome with an error or a fatal message, where no story comes
abbrev pub refused : Reported → Outcome
refused r = record { messages = (with_closing r).lines; story = None; status = Status.Errors }

abbrev pub is_clean : Reported → Bool
is_clean r = not r.counts.is_over && (r.counts.errors == 0)

-- the place of messages about a whole source: its first line
abbrev pub first_line : FileNames → Location
first_line files = location files first_place

-- The numbers that are told of a story: its release and its serial number, which is the date where no directive told another;
-- whether statistics are wanted; and the number of names of its source.
abbrev pub told_of : List ℕ → Compilation → Telling
told_of date w = record {
  release = w.told.release;
  serial = unwrap_or w.told.serial date;
  has_statistics = counts w.letters;
  symbols = length w.output.names.names;
}

abbrev pub fields_of : Telling → Routines → HeaderFields
fields_of t code = record { release = t.release; serial = t.serial; scale = code.scale }

-- the lines of the statistics, where they are wanted
abbrev pub statistics_by : Bool → Statistics → Reported → Reported
statistics_by true statistics r = with_statistics statistics r
statistics_by false statistics r = r

abbrev pub statistics_told : Telling → Routines → AllTables → Sizes → Reported → Reported
statistics_told t code tables sizes r =
    statistics_by t.has_statistics (record { counts = counts_of t.symbols code tables; sizes = sizes }) r

-- the outcome with a story
abbrev pub compiled : Reported → List ℕ → Outcome
compiled r bytes = record { messages = (with_closing r).lines; story = Some bytes; status = Status.Success }

-- the bytes of the story of the code, the strings and the tables, in which the routine at `main` is called first and `names` are
-- the values of names
abbrev pub bytes_of : Telling → ℕ → List Value → Routines → StringArea → AllTables → List ℕ
bytes_of t main names code strings tables = story (fields_of t code) main names code.finished strings.bytes tables

abbrev pub sizes_of : Telling → ℕ → List Value → Routines → StringArea → AllTables → Sizes
sizes_of t main names code strings tables =
    story_sizes (fields_of t code) main code.finished strings.bytes tables (bytes_of t main names code strings tables)

-- The outcome with that story, or where it is too long, which is a fatal error. Its readable memory is looked at first.
abbrev pub linked : Telling → FileNames → ℕ → List Value → Routines → StringArea → AllTables → Reported → Option LinkFault → Outcome
linked t files main names code strings tables r None =
    compiled (statistics_told t code tables (sizes_of t main names code strings tables) r) (bytes_of t main names code strings tables)
linked t files main names code strings tables r (Some LinkFault.ReadableTooLong) = refused (with_fatal (first_line files) ReadableTooLong r)
linked t files main names code strings tables r (Some LinkFault.StoryTooLong) =
    refused (with_fatal (first_line files) (StoryTooLong (most_bytes code.scale)) r)
linked t files main names code strings tables r (Some LinkFault.Memory) = refused r

-- The outcome by the values of names, where a name of a kind that is no number in a story is an error.
abbrev pub named : Telling → FileNames → ℕ → Routines → StringArea → AllTables → Reported → Option (List Value) → Outcome
named t files main code strings tables r None = refused (with_error (first_line files) (first_line files) NotConstant r)
named t files main code strings tables r (Some names) =
    linked t files main names code strings tables r (too_long (fields_of t code) main code.finished strings.bytes tables)

abbrev pub laid : Telling → FileNames → ℕ → Out → Reported → Outcome
laid t files main o r = named t files main o.code o.strings o.tables r (values_of o.names.names)

-- the outcome of a source with its first routine: a story, unless an error was found
abbrev pub begun_from : Telling → FileNames → ℕ → Out → Reported → Outcome
begun_from t files main o r = if is_clean r then laid t files main o r else refused r

-- the outcome of a source that was read: without its first routine it has an error
abbrev pub begun : Telling → FileNames → Out → Reported → Option ℕ → Outcome
begun t files o r None = refused (with_error (first_line files) (first_line files) NoMain r)
begun t files o r (Some main) = begun_from t files main o r

-- The outcome where the names are told that were used and never declared.
abbrev pub finished_with : List ℕ → FileNames → Compilation → Outcome
finished_with serial files w =
    begun (told_of serial w) files w.output (with_all_undeclared files w.output.names.names w.report) (main_of w.output.names)

-- The outcome where code begins at the end, at the latest.
abbrev pub finished : Limits → List ℕ → FileNames → Compilation → Outcome
finished limits serial files w = finished_with serial files (begun_at limits files first_place w)

-- The report by which a story comes or not: code has begun, at the latest at the end, and all names are told that were used and never
-- declared.
abbrev pub counted : Limits → FileNames → Compilation → Reported
counted limits files w =
    let b = begun_at limits files first_place w in with_all_undeclared files b.output.names.names b.report

-- the outcome of a source that is not there
abbrev pub missing : List ℕ → Outcome
missing file = refused (with_fatal (record { file = file; line = 1 }) (NoSource file) nothing_reported)

-- the outcome for which the code's outcome stands
abbrev pub seen : CodeOutcome → Outcome
seen e = record { messages = e.messages.items; story = option_map (λ v. v.items) e.story; status = e.status }
