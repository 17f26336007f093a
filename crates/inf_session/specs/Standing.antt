-- The state for which the code's session stands, with a reader that keeps to its sources.
use Rattle.std.specs.{String.string_capacity, declared.alloc.Global.Global}
use Rattle.std.specs.Prelude.{◌≡◌, ℕ, ◌≤◌, List, Bool, false, ◌&&◌, ◌||◌, if◌then◌else◌, ◌∷◌, Option, is_none, length, String}
use Rattle.inf_conditionals.specs.{Judging.is_none_pending, Judging.may_part, Open.no_conditions}
use Rattle.inf_reader.specs.{Handing.is_between, Reading.has_ended_at, Standing.reading, Standing.standing}
use Rattle.inf_devices.specs.Files.{Openings, Sources}
use Rattle.inf_lexer.specs.Names.{innermost_name}
use Rattle.inf_sources.specs.Open.{Open, nesting}
use Rattle.inf_settings.specs.{declared.setting.Setting.Setting, declared.settings.Settings.Settings}
use Rattle.inf_settings.specs.Settings.{number_of}
use Rattle.inf_compilation.specs.Works.{work as work_of}
use Rattle.inf_session.specs.{Choices.Choices, Choices.chosen, Choices.most_quoted, Session.State, Session.begun_with, Uses.AreKept}
use Rattle.inf_session.specs.{Uses.all_used, Veneer.next_text}
use Rattle.inf_session.specs.{declared.session.Session.Session, declared.session.Step.Step}

-- The state for a session, where the openings were `start` before the main source was opened, and are `now` now; the messages
-- `told` were written.
abbrev pub state : {B : Type 0} → Sources → Openings → Openings → Session B → List ℕ → State
state sources start now s told = record {
  nesting = nesting sources start now s.open_files;
  conditions = s.conditionals;
  reading = reading s.progress.reader;
  work = work_of s.progress.work;
  told = told;
  is_over = s.is_over;
  quoted = s.quoted;
  passed = s.passed;
}

-- Nothing of a source was read: reading begins behind the head, and goes on; no conditional, no quoted token and no supplied routine was
-- read.
pub record Begins {B : Type 0} (o : Choices) (s : Session B) : Type 0 where
  pub begun : standing s.progress ≡ begun_with o s.open_files.nest.names
  pub going : s.is_over ≡ false
  pub conditionals : s.conditionals ≡ no_conditions
  pub quoted : s.quoted ≡ 0
  pub passed : s.passed ≡ 0

-- whether no more of the source is read
abbrev pub ended : {B : Type 0} → Session B → Bool
ended s = s.is_over || has_ended_at (standing s.progress)

-- quoted tokens of files that are opened may have as many bytes as was chosen
abbrev pub IsSet : {B : Type 0} → Session B → Type 0
IsSet s = s.open_files.nest.limit ≡ most_quoted (chosen s.setup)

-- a buffer has room for the name of the innermost file
abbrev pub HasRoom : String Global → Open → Type 0
HasRoom room files = length (innermost_name files.nest) ≤ string_capacity room

-- a fatal message came
abbrev pub is_fatal : {B : Type 0} → Session B → Bool
is_fatal s = (standing s.progress).work.report.counts.is_over

-- the number of the routine of the veneer that is read next
abbrev pub next_of : {B : Type 0} → Session B → Option ℕ
next_of s = next_text (is_fatal s) s.passed s.progress.work.output.names

-- whether nothing is left to be read
abbrev pub is_done : {B : Type 0} → Session B → Bool
is_done s = ended s && is_none (next_of s)

-- the first four objects and the first low string alone pass no setting
abbrev pub HasObjects : Settings → Type 0
HasObjects settings = (4 ≤ number_of Setting.Objects settings) × (30 ≤ number_of Setting.PropertyTables settings) ×
    (2 ≤ number_of Setting.LowStrings settings) × (4 ≤ number_of Setting.References settings)

-- The bounds that hold wherever a source is read: no quoted token so far was longer than it may be, and, unless a fatal message
-- came, there is room for the first four objects.
abbrev pub IsBounded : {B : Type 0} → Session B → Type 0
IsBounded s =
    let settings = (chosen s.setup).settings in
    (s.quoted ≤ most_quoted (chosen s.setup)) × (is_fatal s ≡ false → HasObjects settings)

-- each count is at most the number of its setting
abbrev pub AreWithin : List ℕ → List Setting → Settings → Type 0
AreWithin (n ∷ counts) (s ∷ bounding) settings = (n ≤ number_of s settings) × AreWithin counts bounding settings
AreWithin _ _ settings = Unit {0}

-- whether the reading is between two directives, and in no conditional one
abbrev pub resting : {B : Type 0} → Session B → Bool
resting s = is_between (reading s.progress.reader) && is_none_pending s.conditionals.pending

-- whether the reading is at the end of a part
abbrev pub parted : {B : Type 0} → Session B → Bool
parted s = ended s || (is_between (reading s.progress.reader) && may_part s.conditionals)

-- the result of a step that ended here: a fatal message; or the end, where nothing was left to be read before; or a part
abbrev pub came_to : {B : Type 0} → Bool → Session B → Step
came_to had_ended s = if is_fatal s then Step.Fatal else if had_ended then Step.End else Step.More

-- Counts so far of all that the settings bound, none of which is cut.
abbrev pub used_by : {B : Type 0} → Session B → List ℕ
used_by s = all_used s.quoted s.conditionals (work_of s.progress.work)

-- The counts that are compared with their settings only where an expression or a unit has ended are within these: tokens, labels and
-- references.
abbrev pub LaterWithin : {B : Type 0} → Settings → Session B → Type 0
LaterWithin settings s = AreKept settings s.quoted s.conditionals (work_of s.progress.work)
