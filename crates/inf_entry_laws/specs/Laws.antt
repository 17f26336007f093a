-- The units of objects and classes: what each does to the world is one operation of the tables, where nothing is found wrong with it and
-- the world refuses nothing.
use Rattle.std.specs.Prelude.{◌≡◌, ℕ, ◌+◌, ◌%◌, length, List, Bool, true, false, Option, Some, None}
use Rattle.inf_settings.specs.Bounds.{Limits}
use Rattle.inf_area.specs.declared.{targets.Target.Target, targets.Value.Value}
use Rattle.inf_characters.specs.declared.texts.TextItem.{TextItem}
use Rattle.inf_scanner.specs.declared.tokens.Place.{Place}
use Rattle.inf_expressions.specs.{Findings.least_of_both, declared.units.Wanted.Wanted}
use Rattle.inf_names.specs.{Locals.Headed, Spellings.Name, Symbols.declare_fault, Symbols.found_in, declared.meanings.Meaning.Meaning}
use Rattle.inf_names.specs.declared.symbols.Found.{Found}
use Rattle.inf_text.specs.Packing.{dictionary_bytes}
use Rattle.inf_unit.specs.Units.{name_order}
use Rattle.inf_compilation.specs.{Actions.Compilation, Actions.body_ended, Actions.finding_at, Context.Context}
use Rattle.inf_tables.specs.declared.kinds.Parent.{Parent}
use Rattle.inf_tables.specs.World.{WorldOf, class_header_fault, class_of_fault, further_value_fault, given_property_fault, individual_fault}
use Rattle.inf_tables.specs.World.{no_body_fault, object_header_fault, set_attribute_fault, with_class_header, with_class_of, with_end}
use Rattle.inf_tables.specs.World.{with_further_value, with_given_property, with_individual, with_object_header, with_set_attribute}
use Rattle.inf_named_values.specs.{Declarations.plainly_known, Values.looked_value, Values.value_of, Values.variables_from}
use Rattle.inf_bodies.specs.declared.headers.Header.{Header}
use Rattle.inf_bodies.specs.ShortNames.{bracketed, packed_name, short_text}
use Rattle.inf_bodies.specs.Objects.{class_header, class_of, class_of_word, found_at, header_in, object_header, object_known, own_name}
use Rattle.inf_bodies.specs.Objects.{parent_in}
use Rattle.inf_bodies.specs.Bodies.{attribute_of, attribute_read, class_read, given, given_finding, is_given, last_at, place_finding}
use Rattle.inf_bodies.specs.Bodies.{property_of, property_read, further, further_found, placed}
use Rattle.inf_bodies.specs.Values.{embedded, found_embedded, next_routine, settled_work, takes_words, value_placed, value_read, name_place}
use Rattle.inf_bodies.specs.Values.{word_text}

abbrev pub world_of : Compilation → WorldOf
world_of w = w.output.tables.world

-- Definitions of headers

-- the short names of a class and of an object, as bytes
abbrev pub class_short : Context → Name → Compilation → List ℕ
class_short context n w = packed_name (bracketed context.set n.bytes) w.output.texts

abbrev pub header_of : Compilation → Header
header_of w = header_in w.unit.tokens

abbrev pub name_of : Compilation → Option Name
name_of w = own_name (header_of w).own w

abbrev pub object_short : Context → Compilation → List ℕ
object_short context w = packed_name (short_text context (header_of w) (name_of w) w) w.output.texts

abbrev pub parent_of : Compilation → Parent
parent_of w = parent_in (header_of w).parent (header_of w).arrows w

-- A class that heads an object is its first class.
abbrev pub with_first_class : Option ℕ → WorldOf → WorldOf
with_first_class None w = w
with_first_class (Some c) w = with_class_of c w

abbrev pub FirstClassFits : Limits → Option ℕ → WorldOf → Type 0
FirstClassFits limits None w = Unit {0}
FirstClassFits limits (Some c) w = class_of_fault limits c w ≡ None

-- A header is that of the next object or class, whose name has the number behind those of all before it.
abbrev pub number_next : Compilation → ℕ
number_next w = (5 + length (world_of w).objects) % 65536

abbrev pub IsNamed : Name → Meaning → Compilation → Type 0
IsNamed n m w = found_in n.bytes w.output.names ≡ Found.Declared m n.place

pub record HeadersChange (limits : Limits) (context : Context) (place : Place) (w : Compilation) : Type 0 where
  pub class : (n : Name) → (plainly_known n (name_order w.unit.tokens) w).finding ≡ None
      → class_header_fault limits (class_short context n w) (world_of w) ≡ None
      → world_of (class_header limits context place n w) ≡ with_class_header (class_short context n w) (world_of w)
  pub class_name : (n : Name) → (plainly_known n (name_order w.unit.tokens) w).finding ≡ None
      → class_header_fault limits (class_short context n w) (world_of w) ≡ None → declare_fault limits n.bytes w.output.names ≡ None
      → IsNamed n (Meaning.Class (number_next w)) (class_header limits context place n w)
  pub object : (object_known context (header_of w) (name_of w) w).finding ≡ None
      → object_header_fault limits (parent_of w) (object_short context w) (world_of w) ≡ None
      → FirstClassFits limits (class_of_word w) (with_object_header (parent_of w) (object_short context w) (world_of w))
      → world_of (object_header limits context place w)
      ≡ with_first_class (class_of_word w) (with_object_header (parent_of w) (object_short context w) (world_of w))
  pub object_name : (n : Name) → name_of w ≡ Some n → (object_known context (header_of w) (name_of w) w).finding ≡ None
      → object_header_fault limits (parent_of w) (object_short context w) (world_of w) ≡ None
      → FirstClassFits limits (class_of_word w) (with_object_header (parent_of w) (object_short context w) (world_of w))
      → declare_fault limits n.bytes w.output.names ≡ None
      → IsNamed n (Meaning.Object (number_next w)) (object_header limits context place w)

abbrev pub HeadersChangeWorlds : Type 0
HeadersChangeWorlds = (limits : Limits) (context : Context) (place : Place) (w : Compilation) → HeadersChange limits context place w

-- Entries: a class, an attribute, a property without values, and the end of the body

pub record EntriesChange (limits : Limits) (context : Context) (place : Place) (w : Compilation) : Type 0 where
  pub class : (c : ℕ) → class_of (found_at (last_at w.unit.tokens) w) ≡ Some c → class_of_fault limits c (world_of w) ≡ None
      → world_of (class_read limits context place w) ≡ with_class_of c (world_of w)
  pub attribute : (a : ℕ) → attribute_of (found_at (last_at w.unit.tokens) w) ≡ Some a → set_attribute_fault a (world_of w) ≡ None
      → world_of (attribute_read limits context place w)
      ≡ with_set_attribute a (is_given w.unit.tokens (last_at w.unit.tokens)) (world_of w)
  pub property : world_of (property_read limits context place w) ≡ world_of (given limits (last_at w.unit.tokens) None None w)
  pub ends : no_body_fault (world_of w) ≡ None → world_of (body_ended w) ≡ with_end (world_of w)

abbrev pub EntriesChangeWorlds : Type 0
EntriesChangeWorlds = (limits : Limits) (context : Context) (place : Place) (w : Compilation) → EntriesChange limits context place w

-- Properties and values: one with the name at a place, with a first value or none; a new individual one; and a further value

pub record ValuesChange (limits : Limits) (context : Context) (place : Place) (w : Compilation) : Type 0 where
  pub known : (at p : ℕ) (v : Option Value) → property_of (found_at at w) ≡ Some p → given_finding limits at v None w ≡ None
      → given_property_fault limits p v (world_of w) ≡ None
      → world_of (given limits at v None w) ≡ with_given_property p v (world_of w)
  pub new : (at : ℕ) (v : Option Value) → property_of (found_at at w) ≡ None → given_finding limits at v None w ≡ None
      → individual_fault (world_of w) ≡ None
      → given_property_fault limits (64 + (world_of w).individuals) v (with_individual (world_of w)) ≡ None
      → world_of (given limits at v None w) ≡ with_given_property (64 + (world_of w).individuals) v (with_individual (world_of w))
  pub more : (v : Value) → further_found limits v None w ≡ None → further_value_fault limits v (world_of w) ≡ None
      → world_of (further limits v None w) ≡ with_further_value v (world_of w)
  -- a value is a word of the dictionary, an expression, or a routine
  pub word : (items : List TextItem) → let name = name_place w.unit.outer in word_text context (takes_words name w) w ≡ Some items
      → variables_from items false ≡ false
      → world_of (value_read limits context place w)
      ≡ world_of (placed limits name (Value.Later (Target.Word (dictionary_bytes items))) None w)
  pub expression : let name = name_place w.unit.outer in word_text context (takes_words name w) w ≡ None
      → least_of_both (finding_at 0 Wanted.Constant w) (place_finding limits name (looked_value w) w) ≡ None
      → world_of (value_read limits context place w)
      ≡ world_of (placed limits name (value_of limits context w) None (settled_work limits context w))
  pub settled : world_of (settled_work limits context w) ≡ world_of w
  pub routine : (first : Place) (name : Option ℕ) (h : Headed) → (found_embedded limits name h w).least ≡ None
      → world_of (embedded limits context first name h w) ≡ world_of (placed limits name (next_routine w) None w)

abbrev pub ValuesChangeWorlds : Type 0
ValuesChangeWorlds = (limits : Limits) (context : Context) (place : Place) (w : Compilation) → ValuesChange limits context place w
