-- The units of declarations one behind the other, each from its header to its end, as a chain of compilations. `Chains` says when
-- nothing is wrong with any of them.
use Rattle.std.specs.Prelude.{ℕ, List, [], ◌∷◌, ◌++◌, map, Bool, true, false, Option, Some, None}
use Rattle.inf_settings.specs.Bounds.{Limits}
use Rattle.inf_area.specs.declared.{targets.Target.Target, targets.Value.Value}
use Rattle.inf_characters.specs.declared.texts.TextItem.{TextItem}
use Rattle.inf_scanner.specs.declared.tokens.Place.{Place}
use Rattle.inf_names.specs.{Locals.no_locals, Spellings.Name}
use Rattle.inf_text.specs.Packing.{dictionary_bytes}
use Rattle.inf_compilation.specs.{Actions.Compilation, Actions.body_ended, Context.Context}
use Rattle.inf_tables.specs.declared.kinds.Parent.{Parent}
use Rattle.inf_named_values.specs.Values.{value_of}
use Rattle.inf_bodies.specs.Objects.{class_header, class_of_word, object_header}
use Rattle.inf_bodies.specs.Bodies.{attribute_read, class_read, property_read}
use Rattle.inf_bodies.specs.Values.{bracket_in, embedded_read, name_place, next_routine, place_before, settled_work, takes_words}
use Rattle.inf_bodies.specs.Values.{value_read, word_text}
use Rattle.inf_world_laws.specs.Parts.{Body, Gives, Has, InClass, Part}
use Rattle.inf_world_laws.specs.Things.{Arrows, Inside, Place as WorldPlace, PropertyName}
use Rattle.inf_entry_laws.specs.Laws.{class_short, object_short, parent_of}

-- Units. Each is there with all that was compiled before its end, and with the place of its end.

pub record Piece : Type 0 where
  pub work : Compilation
  pub place : Place

-- a value of a property: an expression or a word of the dictionary, or a routine, whose unit is its header
pub data ValueUnit : Type 0 where
  Plain : Piece → ValueUnit
  Routine : Piece → ValueUnit

-- a part of a body: a class, an attribute that is given or taken away, a property without values, and one with a first value and others
pub data PartUnits : Type 0 where
  ClassNamed : ℕ → Piece → PartUnits
  AttributeNamed : ℕ → Bool → Piece → PartUnits
  PropertyNamed : PropertyName → Piece → PartUnits
  Valued : PropertyName → ValueUnit → List ValueUnit → PartUnits

pub data HeaderUnit : Type 0 where
  ClassHeader : Name → Piece → HeaderUnit
  ObjectHeader : Piece → HeaderUnit

-- a declaration; `last` is what was compiled before its semicolon
pub record DeclarationUnits : Type 0 where
  pub header : HeaderUnit
  pub body : List PartUnits
  pub last : Compilation

-- Definitions of the compilation behind each unit

abbrev pub value_behind : Limits → Context → ValueUnit → Compilation
value_behind limits context (Plain u) = value_read limits context u.place u.work
value_behind limits context (Routine u) = embedded_read limits context u.place u.work

abbrev pub values_behind : Limits → Context → List ValueUnit → Compilation → Compilation
values_behind limits context [] before = before
values_behind limits context (u ∷ more) before = values_behind limits context more (value_behind limits context u)

abbrev pub part_behind : Limits → Context → PartUnits → Compilation
part_behind limits context (ClassNamed c u) = class_read limits context u.place u.work
part_behind limits context (AttributeNamed a is_given u) = attribute_read limits context u.place u.work
part_behind limits context (PropertyNamed p u) = property_read limits context u.place u.work
part_behind limits context (Valued p u more) = values_behind limits context more (value_behind limits context u)

abbrev pub parts_behind : Limits → Context → List PartUnits → Compilation → Compilation
parts_behind limits context [] before = before
parts_behind limits context (u ∷ body) before = parts_behind limits context body (part_behind limits context u)

abbrev pub header_behind : Limits → Context → HeaderUnit → Compilation
header_behind limits context (ClassHeader n u) = class_header limits context u.place n u.work
header_behind limits context (ObjectHeader u) = object_header limits context u.place u.work

abbrev pub all_behind : Limits → Context → List DeclarationUnits → Compilation → Compilation
all_behind limits context [] before = before
all_behind limits context (d ∷ units) before = all_behind limits context units (body_ended d.last)

-- A value: the place of the name of its property, if that comes before it; the value; and what was compiled when it goes to the property

pub record Taken : Type 0 where
  pub name : Option ℕ
  pub value : Value
  pub work : Compilation

abbrev pub text_in : Context → Compilation → Option (List TextItem)
text_in context w = word_text context (takes_words (name_place w.unit.outer) w) w

abbrev pub plain_taken : Limits → Context → Option (List TextItem) → Compilation → Taken
plain_taken limits context (Some items) w = record {
  name = name_place w.unit.outer;
  value = Value.Later (Target.Word (dictionary_bytes items));
  work = w;
}
plain_taken limits context None w = record {
  name = name_place w.unit.outer;
  value = value_of limits context w;
  work = settled_work limits context w;
}

-- the locals of a routine go with it
abbrev pub headless : Compilation → Compilation
headless w = record w { unit = record w.unit { headed = no_locals } }

abbrev pub taken : Limits → Context → ValueUnit → Taken
taken limits context (Plain u) = plain_taken limits context (text_in context u.work) u.work
taken limits context (Routine u) = record {
  name = place_before (bracket_in u.work.unit.tokens);
  value = next_routine (headless u.work);
  work = headless u.work;
}

abbrev pub value_in : Limits → Context → ValueUnit → Value
value_in limits context u = (taken limits context u).value

-- Definitions of the body that the units of a declaration are

abbrev pub part_of : Limits → Context → PartUnits → Part
part_of limits context (ClassNamed c u) = InClass c
part_of limits context (AttributeNamed a is_given u) = Has a is_given
part_of limits context (PropertyNamed p u) = Gives p []
part_of limits context (Valued p u more) = Gives p (value_in limits context u ∷ map (value_in limits context) more)

-- a class that heads an object is its first
abbrev pub first_part : Option ℕ → List Part
first_part None = []
first_part (Some c) = InClass c ∷ []

abbrev pub place_by : Parent → WorldPlace
place_by (Parent.Arrows n) = Arrows n
place_by (Parent.Object n) = Inside n

abbrev pub body_by : Context → HeaderUnit → List Part → Body
body_by context (ClassHeader n u) parts =
    record { is_class = true; place = Arrows 0; short = class_short context n u.work; parts = parts }
body_by context (ObjectHeader u) parts = record {
  is_class = false;
  place = place_by (parent_of u.work);
  short = object_short context u.work;
  parts = first_part (class_of_word u.work) ++ parts;
}

abbrev pub body_of : Limits → Context → DeclarationUnits → Body
body_of limits context d = body_by context d.header (map (part_of limits context) d.body)
