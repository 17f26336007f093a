-- Targets stand in each state of a reading, and are found in its story.
use Rattle.std.specs.Prelude.{List, Some, false, is_some, slice_get, true, ℕ, ◌≡◌}
use Rattle.inf_area.specs.{declared.cells.Cell.Cell, declared.targets.Target.Target, declared.targets.Value.Value}
use Rattle.inf_scanner.specs.declared.tokens.Place.{Place}
use Rattle.inf_settings.specs.Bounds.{Limits, limits_of}
use Rattle.inf_dictionary.specs.{Texts.Text, Words.word_of, declared.uses.Word.Word}
use Rattle.inf_devices.specs.Files.{Sources}
use Rattle.inf_output.specs.Output.{Out}
use Rattle.inf_syntax.specs.declared.actions.Action.{Action}
use Rattle.inf_unit.specs.{Messages.FileNames, Tokens.SourceToken}
use Rattle.inf_compilation.specs.{Actions.Compilation, Actions.begun_at, Actions.took, Context.Context}
use Rattle.inf_reader.specs.Acting.{act, cut_at}
use Rattle.inf_link.specs.{Targets.Lookup, Targets.part_of, declared.areas.Areas.Areas}
use Rattle.inf_story.specs.{Names.values_of, Tables.areas, Tables.looked_up}
use Rattle.inf_ending.specs.Ending.{finished, first_place}
use Rattle.inf_session.specs.{Choices.Choices, Session.State}
use Rattle.inf_word_laws.specs.Standing.{AllDirect, AllOf}
use Rattle.inf_step_walk.specs.Standing.{Before, Holds, StepsStand, is_short}
use Rattle.inf_limit_laws.specs.Reached.{IsReached}

-- Compilations of which all targets stand, and steps that keep them

-- All targets of the output of a compilation, and of the steps of its open statements, stand in an output.
abbrev pub Held : Out → Compilation → Type 0
Held u w = Holds u w.output × StepsStand u w.constructs

-- A step leads from a compilation to another one: the first comes before each output before which the second comes, and what it has, if
-- all of it stands there, does so behind the step, too.
pub record Leads (u : Out) (w v : Compilation) : Type 0 where
  pub on : Before u v.output → Before u w.output
  pub kept : Before u v.output → Held u w → Held u v

-- Targets in the areas of a story

-- Tells whether a target is found: a name by its number, a part by its own, and a word in the dictionary.
abbrev pub IsFound : Lookup → List (Text × Word) → Target → Type 0
IsFound targets words (Target.Name number) = is_some (slice_get targets.names number) ≡ true
IsFound targets words (Target.Word text) = is_some (word_of text words) ≡ true
IsFound targets words (Target.Part area part) = is_some (slice_get (part_of targets area) part) ≡ true
IsFound targets words _ = Unit {0}

abbrev pub CellIsFound : Lookup → List (Text × Word) → Cell → Type 0
CellIsFound targets words (Cell.Byte byte) = Unit {0}
CellIsFound targets words (Cell.Later t) = IsFound targets words t

abbrev pub AllFound : Lookup → List (Text × Word) → List Cell → Type 0
AllFound targets words cells = AllOf (CellIsFound targets words) cells

abbrev pub ValueIsFound : Lookup → List (Text × Word) → Value → Type 0
ValueIsFound targets words (Value.Known number) = Unit {0}
ValueIsFound targets words (Value.Later t) = IsFound targets words t

abbrev pub ValuesFound : Lookup → List (Text × Word) → List Value → Type 0
ValuesFound targets words values = AllOf (ValueIsFound targets words) values

-- All targets in the areas of a story are found.
pub record AreasFound (targets : Lookup) (words : List (Text × Word)) (a : Areas (List Cell)) : Type 0 where
  pub low_strings : AllFound targets words a.low_strings
  pub abbreviations : AllFound targets words a.abbreviations
  pub property_defaults : AllFound targets words a.property_defaults
  pub objects : AllFound targets words a.objects
  pub property_tables : AllFound targets words a.property_tables
  pub class_numbers : AllFound targets words a.class_numbers
  pub individual_tables : AllFound targets words a.individual_tables
  pub globals : AllFound targets words a.globals
  pub arrays : AllFound targets words a.arrays
  pub grammar : AllFound targets words a.grammar
  pub actions : AllFound targets words a.actions
  pub parsing_routines : AllFound targets words a.parsing_routines
  pub dictionary : AllFound targets words a.dictionary
  pub code : AllFound targets words a.code
  pub strings : AllFound targets words a.strings

-- All names of a source have values, none of which refers to a name; and all targets of these and of the areas, whatever routine is called
-- first, are found.
pub record StoryIsWhole (u : Out) : Type 0 where
  pub names : List Value
  pub are : values_of u.names.names ≡ Some names
  pub direct : AllDirect names
  pub values : ValuesFound (looked_up names u.tables) u.tables.dictionary.list names
  pub in_areas : (main : ℕ)
      → AreasFound (looked_up names u.tables) u.tables.dictionary.list (areas main u.code.finished u.strings.bytes u.tables)

-- Where a reading ends with a story, in whatever state to which it comes, all targets of the story are found.
abbrev pub StoriesAreWhole : Sources → Choices → Type 0
StoriesAreWhole sources o =
    (name : List ℕ) (s : State) → IsReached sources o name s → (date bytes : List ℕ)
    → (finished (limits_of o.settings) date s.nesting.names s.work).story ≡ Some bytes
    → StoryIsWhole (begun_at (limits_of o.settings) s.nesting.names first_place s.work).output

-- States and steps

-- Each action of the grammar, each token that is taken, the cut that a bad token makes, and the end of a conditional directive or of the
-- source keep targets.
pub record StepsKeepTargets (limits : Limits) : Type 0 where
  pub action : (u : Out) (context : Context) (place : Place) (a : Action) (w : Compilation) → Leads u w (act limits context place a w)
  pub token : (u : Out) (context : Context) (t : SourceToken) (w : Compilation) → Leads u w (took context t w)
  pub cut : (u : Out) (context : Context) (place : Place) (w : Compilation) → Leads u w (cut_at limits context place w)
  pub conditional : (u : Out) (files : FileNames) (first : Place) (w : Compilation) → Leads u w (begun_at limits files first w)

-- In each state to which a reading comes, and where the source ends, all targets stand, unless a limit of names or of tables was passed.
pub record TargetsStand (sources : Sources) (o : Choices) : Type 0 where
  pub states : (name : List ℕ) (s : State) → IsReached sources o name s → is_short s.work.output ≡ false → Held s.work.output s.work
  pub ends : (name : List ℕ) (s : State) → IsReached sources o name s
      → let w = begun_at (limits_of o.settings) s.nesting.names first_place s.work in
      is_short w.output ≡ false → Held w.output w
