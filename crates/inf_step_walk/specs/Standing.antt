-- Targets that stand in an output: the names and words to which numbers that are known later refer; and lists and outputs of which all
-- targets do.
use Rattle.std.specs.Prelude.{Bool, List, None, Option, Some, false, is_some, length, true, ℕ, ◌<◌, ◌||◌, ◌≡◌, ◌≤◌}
use Rattle.inf_area.specs.{declared.cells.Cell.Cell as CodeCell, declared.targets.Target.Target, declared.targets.Value.Value}
use Rattle.inf_scanner.specs.declared.tokens.Place.{Place}
use Rattle.inf_dictionary.specs.{Texts.Text, Words.word_of, declared.uses.Word.Word}
use Rattle.inf_arrays.specs.Arrays.{AllArrays, Listed}
use Rattle.inf_verbs.specs.{Lines.LineOf, Lines.token_value, Verbs.VerbOf, declared.lines.LineToken.LineToken}
use Rattle.inf_properties.specs.declared.values.Property.{Property}
use Rattle.inf_objects.specs.declared.objects.Object.{Object}
use Rattle.inf_tables.specs.declared.kinds.DeclaredProperty.{DeclaredProperty}
use Rattle.inf_opcode.specs.{Cells.Cell, Cells.Of, Cells.Plain, declared.cells.Special.Special}
use Rattle.inf_opcode.specs.{declared.instructions.Operand.Operand as Written}
use Rattle.inf_names.specs.{Symbols.IsDeclared, Symbols.IsUsed, Symbols.Named, Symbols.Standing, declared.meanings.Meaning.Meaning}
use Rattle.inf_code.specs.Code.{Opened}
use Rattle.inf_output.specs.{Output.Out, Output.items_of, declared.items.Item.Item, declared.past.Past.Past}
use Rattle.inf_constructs.specs.declared.constructs.Construct.{Construct}
use Rattle.inf_word_laws.specs.Standing.{AllOf, has_word}

-- whether a limit of names or of tables was passed, behind which a name or a word may be missing
abbrev pub is_short_by : Option Past → Bool
is_short_by None = false
is_short_by (Some past) = past.symbols || is_some past.tables

abbrev pub is_short : Out → Bool
is_short o = is_short_by o.past

-- Tells whether a target stands in an output: its name has a number among the names, or its word is one of the dictionary. Places and
-- constants of the story have numbers in any case. To parts of areas no cell of code and no value refers, only tables as a whole do.
abbrev pub TargetStands : Out → Target → Type 0
TargetStands u (Target.Name number) = number < length u.names.names
TargetStands u (Target.Word text) = has_word text u ≡ true
TargetStands u (Target.Part area part) = ⊥
TargetStands u (Target.Place area place) = Unit {0}
TargetStands u (Target.System constant) = Unit {0}

-- An output comes before another one: it passed no limit of names or of tables, and its names and words are among those of the other.
pub record IsBefore (past : Option Past) (words : List (Text × Word)) (names : List (Named Place)) (u : Out) : Type 0 where
  pub complete : is_short_by past ≡ false
  pub few_names : length names ≤ length u.names.names
  pub has_words : (text : Text) → is_some (word_of text words) ≡ true → has_word text u ≡ true

abbrev pub Before : Out → Out → Type 0
Before u o = IsBefore o.past o.tables.dictionary.list o.names.names u

-- Numbers that are known later stand: those of values, of operands of instructions, of cells, and of the meanings of names.
abbrev pub ValueStands : Out → Value → Type 0
ValueStands u (Value.Known number) = Unit {0}
ValueStands u (Value.Later t) = TargetStands u t

abbrev pub WrittenStands : Out → Written → Type 0
WrittenStands u (Written.Later t) = TargetStands u t
WrittenStands u _ = Unit {0}

abbrev pub SpecialStands : Out → Special → Type 0
SpecialStands u (Special.Refers t) = TargetStands u t
SpecialStands u _ = Unit {0}

abbrev pub OpenCellStands : Out → Cell → Type 0
OpenCellStands u (Plain byte) = Unit {0}
OpenCellStands u (Of what) = SpecialStands u what

abbrev pub CellStands : Out → CodeCell → Type 0
CellStands u (CodeCell.Byte byte) = Unit {0}
CellStands u (CodeCell.Later t) = TargetStands u t

abbrev pub MeaningStands : Out → Meaning → Type 0
MeaningStands u (Meaning.Word text) = has_word text u ≡ true
MeaningStands u _ = Unit {0}

abbrev pub StandingStands : Out → Standing Place → Type 0
StandingStands u (IsDeclared number m place) = MeaningStands u m
StandingStands u (IsUsed spelling place) = Unit {0}

-- Lists

abbrev pub ValuesStand : Out → List Value → Type 0
ValuesStand u values = AllOf (ValueStands u) values

-- Code: cells of finished routines and of the open one, items that are kept apart, and those of the steps of open statements

abbrev pub CellsStand : Out → List CodeCell → Type 0
CellsStand u cells = AllOf (CellStands u) cells

abbrev pub OpenCellsStand : Out → List Cell → Type 0
OpenCellsStand u cells = AllOf (OpenCellStands u) cells

abbrev pub RoutineStands : Out → Option Opened → Type 0
RoutineStands u None = Unit {0}
RoutineStands u (Some o) = OpenCellsStand u o.contents.cells

abbrev pub AllWrittenStand : Out → List Written → Type 0
AllWrittenStand u operands = AllOf (WrittenStands u) operands

abbrev pub ItemStands : Out → Item → Type 0
ItemStands u (Item.Instruction parts) = AllWrittenStand u parts.operands
ItemStands u (Item.Mark label) = Unit {0}

abbrev pub ItemsStand : Out → List Item → Type 0
ItemsStand u items = AllOf (ItemStands u) items

abbrev pub StepsStand : Out → List Construct → Type 0
StepsStand u constructs = AllOf (λ (c : Construct). ItemsStand u (items_of c.step)) constructs

-- Names

abbrev pub NamesStand : Out → List (Named Place) → Type 0
NamesStand u names = AllOf (λ (n : Named Place). StandingStands u n.standing) names

-- Tables: arrays, values and defaults of properties, lines of verbs, and routines by their numbers among the names

abbrev pub ListedStand : Out → List Listed → Type 0
ListedStand u arrays = AllOf (λ (a : Listed). ValuesStand u a.entries) arrays

abbrev pub OpenArrayStands : Out → Option Listed → Type 0
OpenArrayStands u None = Unit {0}
OpenArrayStands u (Some a) = ValuesStand u a.entries

abbrev pub ArraysStand : Out → AllArrays → Type 0
ArraysStand u arrays = ListedStand u arrays.closed × OpenArrayStands u arrays.open_one

abbrev pub DefaultsStand : Out → List DeclaredProperty → Type 0
DefaultsStand u declared = AllOf (λ (d : DeclaredProperty). ValueStands u d.default) declared

abbrev pub PropertiesStand : Out → List Property → Type 0
PropertiesStand u properties = AllOf (λ (p : Property). ValuesStand u p.values) properties

abbrev pub ObjectsStand : Out → List Object → Type 0
ObjectsStand u objects = AllOf (λ (o : Object). PropertiesStand u o.properties) objects

abbrev pub TokensStand : Out → List LineToken → Type 0
TokensStand u tokens = AllOf (λ (t : LineToken). ValueStands u (token_value t)) tokens

abbrev pub LinesStand : Out → List LineOf → Type 0
LinesStand u lines = AllOf (λ (line : LineOf). TokensStand u line.tokens) lines

abbrev pub VerbStands : Out → VerbOf → Type 0
VerbStands u verb = LinesStand u verb.first × LinesStand u verb.rest

abbrev pub VerbsStand : Out → List VerbOf → Type 0
VerbsStand u verbs = AllOf (VerbStands u) verbs

abbrev pub RoutinesStand : Out → List ℕ → Type 0
RoutinesStand u routines = AllOf (λ (routine : ℕ). routine < length u.names.names) routines

-- Outputs of which all targets stand

-- All targets of the code of an output stand in another one: of its finished routines, of the open one, and of what is kept apart.
pub record CodeStands (u : Out) (finished : List CodeCell) (opened : Option Opened) (kept : Option (List Item)) : Type 0 where
  pub of_finished : CellsStand u finished
  pub of_opened : RoutineStands u opened
  pub of_kept : ItemsStand u (items_of kept)

-- All targets of its arrays, variables and grammar
pub record TablesStand (u : Out) (arrays : AllArrays) (globals : List Value) (verbs : List VerbOf) (actions parsing : List ℕ)
    : Type 0 where
  pub of_arrays : ArraysStand u arrays
  pub of_globals : ValuesStand u globals
  pub of_verbs : VerbsStand u verbs
  pub of_actions : RoutinesStand u actions
  pub of_parsing : RoutinesStand u parsing

-- All targets of its properties, of its objects, and of an open body with the classes that it named
pub record WorldStands (u : Out) (declared : List DeclaredProperty) (objects : List Object) (own above : List Property) : Type 0 where
  pub of_declared : DefaultsStand u declared
  pub of_objects : ObjectsStand u objects
  pub of_own : PropertiesStand u own
  pub of_above : PropertiesStand u above

-- All targets of an output, of its names, too, stand in another one.
abbrev pub Holds : Out → Out → Type 0
Holds u o =
    CodeStands u o.code.finished o.code.opened o.kept
    × (TablesStand u o.tables.arrays o.tables.globals o.tables.verbs.list o.tables.actions.routines o.tables.parsing
    × (WorldStands u o.tables.world.declared o.tables.world.objects o.tables.world.body.properties.own o.tables.world.body.properties.above
    × NamesStand u o.names.names))
