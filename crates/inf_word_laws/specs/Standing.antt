-- Words of the dictionary that stand in an output, steps that keep them there, and the words, names and values to which operands refer.
use Rattle.std.specs.Prelude.{Bool, List, None, Option, Some, [], false, is_some, length, slice_get, true, ℕ, ◌<◌, ◌||◌, ◌∷◌, ◌≡◌, ◌≤◌}
use Rattle.inf_characters.specs.declared.characters.CharSet.{CharSet}
use Rattle.inf_area.specs.{declared.targets.Target.Target, declared.targets.Value.Value}
use Rattle.inf_expressions.specs.declared.operators.Operand.{Operand}
use Rattle.inf_scanner.specs.declared.tokens.Place.{Place}
use Rattle.inf_gathering.specs.declared.gathering.Leaf.{Leaf}
use Rattle.inf_settings.specs.{Bounds.Limits, declared.setting.Setting.Setting}
use Rattle.inf_dictionary.specs.{Texts.Text, Words.word_of, declared.uses.WordUse.WordUse}
use Rattle.inf_tables.specs.Tables.{AllTables}
use Rattle.inf_opcode.specs.declared.instructions.Label.{Label}
use Rattle.inf_assembler.specs.declared.routines.RoutineKind.{RoutineKind}
use Rattle.inf_names.specs.{Locals.Local, Symbols.Named, declared.meanings.Meaning.Meaning}
use Rattle.inf_output.specs.{declared.items.Item.Item, declared.past.Past.Past}
use Rattle.inf_output.specs.Output.{Code, Out, begun, closed, declared, full, laid, opened, passed_table, referred, with_label}
use Rattle.inf_output.specs.Output.{with_low_text, with_text, with_word, ◌▸◌}
use Rattle.inf_unit.specs.Tokens.{SourceToken}
use Rattle.inf_operands.specs.Operands.{Settled, leaf_added, settled}
use Rattle.inf_story.specs.{Names.values_of, Tables.looked_up}

-- whether the dictionary of an output has the word with a text
abbrev pub has_word : Text → Out → Bool
has_word text o = is_some (word_of text o.tables.dictionary.list)

-- whether a limit of tables was passed
abbrev pub is_limited_by : Option Past → Bool
is_limited_by None = false
is_limited_by (Some past) = is_some past.tables

abbrev pub is_limited : Out → Bool
is_limited o = is_limited_by o.past

-- Tells whether a word stands: the dictionary has it, or a limit of tables was passed.
abbrev pub Stands : Text → Out → Type 0
Stands text o = (has_word text o || is_limited o) ≡ true

-- Where no limit is told, each word that stands is one of the dictionary.
abbrev pub StandingAreThere : Limits → Type 0
StandingAreThere limits = (text : Text) (o : Out) → Stands text o → full limits o ≡ None → has_word text o ≡ true

-- A word that is used stands, however it is used.
abbrev pub UsedWordsStand : Limits → Type 0
UsedWordsStand limits = (text : Text) (how : WordUse) (is_plural : Bool) (o : Out) → Stands text (with_word limits text how is_plural o)

-- A step keeps words: each that stands before it stands behind it.
pub record Keeps (step : Code) : Type 0 where
  pub keeps : (text : Text) (o : Out) → Stands text o → Stands text (step o)

-- All steps by which code and tables grow keep words: an item of code is laid; routines are opened and closed, and code begins; texts and
-- words are added; names are declared and used; a limit of tables is passed. So do steps one behind the other, and code with a label.
pub record StepsKeepWords (limits : Limits) : Type 0 where
  pub item : (item : Item) → Keeps (laid limits item)
  pub opening : (locals : ℕ) (is_lost : Bool) → Keeps (opened limits locals is_lost)
  pub closing : (kind : RoutineKind) → Keeps (closed limits kind)
  pub beginning : Keeps (begun limits)
  pub text : (text : List ℕ) → Keeps (with_text limits text)
  pub low_text : (text : List ℕ) → Keeps (with_low_text limits text)
  pub word : (text : Text) (how : WordUse) (is_plural : Bool) → Keeps (with_word limits text how is_plural)
  pub declaring : (name : List ℕ) (place : Place) (m : Meaning) → Keeps (declared limits name place m)
  pub refers : (name : List ℕ) (place : Place) → Keeps (referred limits name place)
  pub limit : (limit : Setting) → Keeps (passed_table limits limit)
  pub both : (first second : Code) → Keeps first → Keeps second → Keeps (first ▸ second)
  pub labelled : (body : Label → Code) → ((label : Label) → Keeps (body label)) → Keeps (with_label body)

-- Words for which the operands of a unit stand

-- Tells whether an operand stands in an output: the word for which it stands, if it does, is there.
abbrev pub OperandStands : Operand → Out → Type 0
OperandStands (Operand.Later (Target.Word text)) o = Stands text o
OperandStands _ o = Unit {0}

-- Tells whether all items of a list are such.
abbrev pub AllOf : {A : Type 0} → (A → Type 0) → List A → Type 0
AllOf P [] = Unit {0}
AllOf P (item ∷ items) = P item × AllOf P items

abbrev pub AllStand : List Operand → Out → Type 0
AllStand operands o = AllOf (λ (x : Operand). OperandStands x o) operands

-- All operands of a unit's leaves, once their names and words are used, stand in the output behind that; words that stood before stand
-- there, too.
pub record OperandsStand (limits : Limits) : Type 0 where
  pub stand : (set : CharSet) (locals : List Local) (tokens : List SourceToken) (leaves : List Leaf) (s : Settled) →
      AllStand s.operands s.out
      → AllStand (settled limits set locals tokens leaves s).operands (settled limits set locals tokens leaves s).out
  pub added : (set : CharSet) (tokens : List SourceToken) (leaves : List Leaf) → Keeps (leaf_added limits set tokens leaves)

-- Names for which they stand

-- Tells whether the name for which an operand stands by its number, if it does, is among those of an output.
abbrev pub IsNamed : Operand → Out → Type 0
IsNamed (Operand.Later (Target.Name number)) o = number < length o.names.names
IsNamed _ o = Unit {0}

abbrev pub AllNamed : List Operand → Out → Type 0
AllNamed operands o = AllOf (λ (x : Operand). IsNamed x o) operands

-- All operands of a unit's leaves, once their names are used, stand for names that are there. Names only get more.
pub record OperandsNamed (limits : Limits) : Type 0 where
  pub named : (set : CharSet) (locals : List Local) (tokens : List SourceToken) (leaves : List Leaf) (s : Settled) →
      AllNamed s.operands s.out
      → AllNamed (settled limits set locals tokens leaves s).operands (settled limits set locals tokens leaves s).out
  pub grow : (set : CharSet) (locals : List Local) (tokens : List SourceToken) (leaves : List Leaf) (s : Settled)
      → length s.out.names.names ≤ length (settled limits set locals tokens leaves s).out.names.names

-- The values of the names of a source, as they are looked up in a story

-- Tells whether a value is no reference to a name.
abbrev pub IsDirect : Value → Type 0
IsDirect (Value.Later (Target.Name number)) = ⊥
IsDirect _ = Unit {0}

abbrev pub AllDirect : List Value → Type 0
AllDirect values = AllOf IsDirect values

-- The value of each name is found, where all names of a source have values, as they have in a story; and it is no reference to a name.
pub record AreFound (names : List (Named Place)) (values : List Value) : Type 0 where
  pub found : (tables : AllTables) (number : ℕ) → number < length names
      → is_some (slice_get (looked_up values tables).names number) ≡ true
  pub direct : AllDirect values

abbrev pub NamesAreFound : Type 0
NamesAreFound = (names : List (Named Place)) (values : List Value) → values_of names ≡ Some values → AreFound names values
