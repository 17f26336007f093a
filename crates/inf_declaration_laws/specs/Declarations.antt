-- The numbers of attributes, properties, variables and fake actions, and the meanings of names, by the list of the directives that
-- declare them (Designer's Manual, fourth edition, sections 2, 3 and 6). A name is a text in any case of its letters.
use Rattle.std.specs.Prelude.{ℕ, ◌+◌, ◌%◌, List, [], ◌∷◌, ◌++◌, codes, length, Bool, true, false, Option, Some, None, is_some}
use Rattle.std.specs.Prelude.{if◌then◌else◌}
use Rattle.std.specs.{List.filter, Str.str_eq_ignore_ascii_case}
use Rattle.inf_names.specs.declared.meanings.Meaning.{Meaning}

abbrev pub Text : Type 0
Text = List ℕ

pub data Directive : Type 0 where
  Attribute : Text → Directive
  Property : Text → Bool → Directive  -- additive or not
  Global : Text → Directive
  FakeAction : Text → Directive
  AttributeAlias : Text → Text → Directive  -- another name, and the name of the attribute
  PropertyAlias : Text → Text → Directive
  Constant : Text → Meaning → Directive  -- with the meaning of its expression, which is 0 where there is none
  Default : Text → Meaning → Directive
  Stub : Text → Meaning → Directive  -- with the routine that it adds where the name is not declared
  Other : Text → Meaning → Directive  -- a routine, an object, an array: the meaning of its name is described elsewhere

-- Numbers: directives come latest first, and each has the number of those of its kind that come before it.

abbrev pub count : (Directive → Bool) → List Directive → ℕ
count is before = length (filter is before)

abbrev pub is_attribute : Directive → Bool
is_attribute (Attribute name) = true
is_attribute _ = false

abbrev pub is_property : Directive → Bool
is_property (Property name additive) = true
is_property _ = false

abbrev pub is_global : Directive → Bool
is_global (Global name) = true
is_global _ = false

abbrev pub is_fake : Directive → Bool
is_fake (FakeAction name) = true
is_fake _ = false

-- Attributes count from 0, properties from 4, variables from 16, and fake actions from 4096, as numbers of 16 bits.

abbrev pub attribute_of : List Directive → Meaning
attribute_of before = Meaning.Attribute (count is_attribute before)

abbrev pub property_of : Bool → List Directive → Meaning
property_of additive before = Meaning.Property (4 + count is_property before) additive

abbrev pub variable_of : List Directive → Meaning
variable_of before = Meaning.Variable (16 + count is_global before)

abbrev pub fake_of : List Directive → Meaning
fake_of before = Meaning.FakeAction ((4096 + count is_fake before) % 65536)

-- Names: the meaning of each text that is a name

abbrev pub Names : Type 0
Names = Text → Option Meaning

abbrev pub with_name : Text → Meaning → Names → Names
with_name name m names = λ t. if str_eq_ignore_ascii_case t name then Some m else names t

-- `Default` and `Stub` of a name that has a meaning change nothing.
abbrev pub unless_known : Text → Meaning → Names → Names
unless_known name m names = if is_some (names name) then names else with_name name m names

abbrev pub like : Text → Option Meaning → Names → Names
like name None names = names
like name (Some m) names = with_name name m names

-- the names behind a directive, by those before it; an action's name is kept apart from others by two signs
abbrev pub named : Directive → List Directive → Names → Names
named (Attribute name) before names = with_name name (attribute_of before) names
named (Property name additive) before names = with_name name (property_of additive before) names
named (Global name) before names = with_name name (variable_of before) names
named (FakeAction name) before names = with_name (codes "##" ++ name) (fake_of before) names
named (AttributeAlias name old) before names = like name (names old) names
named (PropertyAlias name old) before names = like name (names old) names
named (Constant name m) before names = with_name name m names
named (Default name m) before names = unless_known name m names
named (Stub name m) before names = unless_known name m names
named (Other name m) before names = with_name name m names

-- the names behind all directives, where the language has some from the start
abbrev pub names_behind : Names → List Directive → Names
names_behind language [] = language
names_behind language (d ∷ before) = named d before (names_behind language before)
