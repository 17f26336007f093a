-- Messages of a compilation so far, and their places.
use Rattle.std.specs.Prelude.{ℕ, List, [], ◌++◌, ◌==◌, Bool, true, if◌then◌else◌, Option, Some, None, slice_get, unwrap_or}
use Rattle.inf_scanner.specs.declared.tokens.Place.{Place}
use Rattle.inf_assembler.specs.declared.routines.Limit.{Limit as CodeLimit}
use Rattle.inf_settings.specs.declared.setting.Setting.{Setting}
use Rattle.inf_expressions.specs.declared.findings.UnitError.{UnitError}
use Rattle.inf_report.specs.{OwnWords.Words, declared.messages.FixedLimit.FixedLimit, declared.messages.Kind.Kind}
use Rattle.inf_report.specs.Messages.{Location, Message, ErrorText, WarningText, Exceeded, FatalText, Told, veneer_line, ConstantOutOfRange}
use Rattle.inf_report.specs.Messages.{LabelTwice, MisplacedDefault, MisplacedSwitches, NotConstant, NothingToLeave, NoZscii}
use Rattle.inf_report.specs.Messages.{NumberOutOfRange, SystemName, TooMany, TooManyArguments, UnknownEscape, UsedBefore, WrongAbbreviation}
use Rattle.inf_report.specs.Messages.{WrongKind, WrongOpcode, WrongVerb}
use Rattle.inf_report.specs.Reports.{Counts, no_counts, error_lines, warning_lines, fatal_lines, plain_lines, statistic_lines}
use Rattle.inf_report.specs.Reports.{closing_lines, with_error as error_counted, with_warning as warning_counted}
use Rattle.inf_report.specs.Reports.{with_fatal as fatal_counted}

-- Names of the files, as they were opened, by their numbers.
abbrev pub FileNames : Type 0
FileNames = List (List ℕ)

-- Number of the file that the routines of the veneer are.
abbrev pub veneer_file : ℕ
veneer_file = 65535

-- Line of a place, by the name of its file.
abbrev pub location : FileNames → Place → Location
location files p =
    if p.file == veneer_file then veneer_line p.line else record { file = unwrap_or (slice_get files p.file) []; line = p.line }

-- A message at a place.
pub record Diagnostic : Type 0 where
  pub place : Place
  pub message : Message

-- Message of an error at a token, as messages name it, with these bytes. A token does not show where a name was declared first, nor of what
-- there are too many: these two errors are told where it is known. Here the name is one of the language, and there are too many values.
unfoldable pub message_of : UnitError → Told → List ℕ → Message
message_of UnitError.NumberOutOfRange t bytes = NumberOutOfRange
message_of UnitError.UnknownEscape t bytes = UnknownEscape
message_of UnitError.NoZscii t bytes = NoZscii
message_of UnitError.Declared t bytes = SystemName bytes
message_of UnitError.WrongKind t bytes = WrongKind t
message_of UnitError.UsedBefore t bytes = UsedBefore bytes
message_of UnitError.NotConstant t bytes = NotConstant
message_of UnitError.ConstantOutOfRange t bytes = ConstantOutOfRange
message_of UnitError.TooManyArguments t bytes = TooManyArguments
message_of UnitError.WrongOpcode t bytes = WrongOpcode bytes
message_of UnitError.LabelTwice t bytes = LabelTwice bytes
message_of UnitError.NothingToLeave t bytes = NothingToLeave
message_of UnitError.TooMany t bytes = TooMany FixedLimit.Values
message_of UnitError.MisplacedSwitches t bytes = MisplacedSwitches
message_of UnitError.WrongAbbreviation t bytes = WrongAbbreviation
message_of UnitError.WrongVerb t bytes = WrongVerb t
message_of UnitError.MisplacedDefault t bytes = MisplacedDefault

-- Lines so far, and the counts of the messages in them.
pub record Reported : Type 0 where
  pub lines : List ℕ
  pub counts : Counts

-- Report before the first message, where warnings are told or not.
abbrev pub none_reported : Bool → Reported
none_reported has_warnings = record { lines = []; counts = no_counts has_warnings }

abbrev pub nothing_reported : Reported
nothing_reported = none_reported true

-- Warnings are told from now on, or not.
abbrev pub warnings_chosen : Bool → Reported → Reported
warnings_chosen has_warnings r = record r { counts = record r.counts { has_warnings = has_warnings } }

-- An error at a line, of a unit that begins at another line or the same; a warning; a fatal error.
abbrev pub with_error : Location → Location → Message → Reported → Reported
with_error at unit m r = record { lines = r.lines ++ error_lines at unit m r.counts; counts = error_counted r.counts }

abbrev pub with_warning : Location → Message → Reported → Reported
with_warning at m r = record { lines = r.lines ++ warning_lines at m r.counts; counts = warning_counted r.counts }

abbrev pub with_fatal : Location → Message → Reported → Reported
with_fatal at m r = record { lines = r.lines ++ fatal_lines at m r.counts; counts = fatal_counted r.counts }

-- A line of the own words of the source alone.
abbrev pub with_plain : Words → Reported → Reported
with_plain words r = record r { lines = r.lines ++ plain_lines words r.counts }

-- A message in the own words of the source, of a weight or none, of a unit that begins at a line.
abbrev pub with_words : Location → Option Kind → Words → Reported → Reported
with_words at None words r = with_plain words r
with_words at (Some Kind.Error) words r = with_error at at (ErrorText words) r
with_words at (Some Kind.Warning) words r = with_warning at (WarningText words) r
with_words at (Some Kind.Fatal) words r = with_fatal at (FatalText words) r

-- The lines were written.
abbrev pub flushed : Reported → Reported
flushed r = record r { lines = [] }

-- A line of the statistics.
abbrev pub with_statistic : List ℕ → ℕ → Reported → Reported
with_statistic word number r = record r { lines = r.lines ++ statistic_lines word number r.counts }

-- The last line.
abbrev pub with_closing : Reported → Reported
with_closing r = record r { lines = r.lines ++ closing_lines r.counts }

-- Report after the unit that begins at a place had this error, if any.
abbrev pub with_fault : FileNames → Place → Option Diagnostic → Reported → Reported
with_fault files unit None r = r
with_fault files unit (Some b) r = with_error (location files b.place) (location files unit) b.message r

-- Setting of a limit of code.
abbrev pub setting_of : CodeLimit → Setting
setting_of CodeLimit.Labels = Setting.Labels
setting_of CodeLimit.Code = Setting.Code
setting_of CodeLimit.Refs = Setting.References

-- A setting that a unit would pass ends the compilation. It is told where the unit begins, behind the messages of the unit.
abbrev pub with_full : FileNames → Place → Option Setting → Reported → Reported
with_full files unit None r = r
with_full files unit (Some s) r = with_fatal (location files unit) (Exceeded s) r
