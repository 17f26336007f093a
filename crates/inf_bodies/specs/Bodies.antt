-- The entries in the bodies of objects and classes, unit by unit: classes, attributes and properties. Designer's Manual, fourth edition,
-- sections 3.1 to 3.8.
use Rattle.std.specs.Prelude.{ℕ, ◌+◌, ◌-◌, ◌%◌, ◌==◌, List, length, Bool, true, false, not, Option, Some, None}
use Rattle.inf_settings.specs.Bounds.{Limits}
use Rattle.inf_area.specs.declared.targets.Value.{Value}
use Rattle.inf_expressions.specs.{Findings.least_of_both, Findings.wrong_kind, declared.findings.Finding.Finding}
use Rattle.inf_names.specs.{Spellings.Name, declared.meanings.Meaning.Meaning, declared.symbols.Found.Found}
use Rattle.inf_output.specs.Output.{Code}
use Rattle.inf_scanner.specs.{declared.tokens.Mark.Mark, declared.tokens.Place.Place, declared.tokens.TokenKind.TokenKind}
use Rattle.inf_compilation.specs.{Actions.Compilation, Context.Context}
use Rattle.inf_unit.specs.{Tokens.SourceToken, Tokens.is_mark, Units.first_place, Units.kind_at, Units.name_at, Units.order}
use Rattle.inf_tables.specs.declared.faults.WorldFault.{WorldFault}
use Rattle.inf_tables.specs.World.{further_value_fault, given_property_fault, individual_fault, set_attribute_fault, with_further_value}
use Rattle.inf_tables.specs.World.{with_given_property, with_individual, with_lost_property, with_set_attribute}
use Rattle.inf_named_values.specs.Declarations.{name_declared, with_world}
use Rattle.inf_bodies.specs.Objects.{class_of, entry_told, found_at, joined_fault, joined_some, noted, refused_finding}

-- the place of the last token
abbrev pub last_at : List SourceToken → ℕ
last_at tokens = length tokens - 1

-- Definitions of classes

abbrev pub class_finding : Option ℕ → Option WorldFault → ℕ → Option Finding
class_finding None fault at = Some (wrong_kind (order at))
class_finding (Some number) fault at = refused_finding fault (order at)

abbrev pub class_read_by : Limits → Context → Place → ℕ → Option ℕ → Compilation → Compilation
class_read_by limits context first at class w =
    entry_told limits context first (class_finding class (joined_fault limits class w.output) at)
    (record w { output = joined_some limits class w.output })

abbrev pub class_read : Limits → Context → Place → Compilation → Compilation
class_read limits context place w =
    let at = last_at w.unit.tokens in class_read_by limits context (first_place w.unit.tokens place) at (class_of (found_at at w)) w

-- Definitions of attributes

abbrev pub attribute_in : Meaning → Option ℕ
attribute_in (Meaning.Attribute number) = Some number
attribute_in _ = None

abbrev pub attribute_of : Found Place → Option ℕ
attribute_of (Found.System m) = None
attribute_of (Found.Declared m first) = attribute_in m
attribute_of Found.Used = None
attribute_of Found.Unknown = None

-- `~` before an attribute takes it away
abbrev pub is_given_by : Option TokenKind → Bool
is_given_by None = true
is_given_by (Some k) = not (is_mark Mark.BitNot k)

abbrev pub is_given : List SourceToken → ℕ → Bool
is_given tokens at = is_given_by (kind_at tokens (at - 1))

abbrev pub attribute_set_by : Option WorldFault → ℕ → Bool → Code
attribute_set_by None number is_given o = with_world (with_set_attribute number is_given o.tables.world) o
attribute_set_by (Some f) number is_given o = o

abbrev pub attribute_set : ℕ → Bool → Code
attribute_set number is_given o = attribute_set_by (set_attribute_fault number o.tables.world) number is_given o

abbrev pub attribute_set_some : Option ℕ → Bool → Code
attribute_set_some None is_given o = o
attribute_set_some (Some number) is_given o = attribute_set number is_given o

abbrev pub attribute_finding : Option ℕ → ℕ → Option Finding
attribute_finding None at = Some (wrong_kind (order at))
attribute_finding (Some number) at = None

abbrev pub attribute_read_by : Limits → Context → Place → ℕ → Option ℕ → Compilation → Compilation
attribute_read_by limits context first at number w = entry_told limits context first (attribute_finding number at)
    (record w { output = attribute_set_some number (is_given w.unit.tokens at) w.output })

abbrev pub attribute_read : Limits → Context → Place → Compilation → Compilation
attribute_read limits context place w =
    let at = last_at w.unit.tokens in attribute_read_by limits context (first_place w.unit.tokens place) at (attribute_of (found_at at w)) w

-- Definitions of properties

abbrev pub property_in : Meaning → Option ℕ
property_in (Meaning.Property number is_additive) = Some number
property_in (Meaning.IndividualProperty number) = Some number
property_in _ = None

abbrev pub property_of : Found Place → Option ℕ
property_of (Found.System m) = property_in m
property_of (Found.Declared m first) = property_in m
property_of Found.Used = None
property_of Found.Unknown = None

-- whether it is the property `name`, whose values are words of the dictionary
abbrev pub is_words : Option ℕ → Bool
is_words None = false
is_words (Some number) = number == 1

-- a new individual property is declared with its name
abbrev pub individual_declared : Limits → Option Name → ℕ → Code
individual_declared limits None number o = o
individual_declared limits (Some n) number o = name_declared limits n (Meaning.IndividualProperty (number % 65536)) o

-- Behind a property with something wrong further values give nothing. Where its name is new it is declared all the same.
abbrev pub with_property_lost : Code
with_property_lost o = with_world (with_lost_property o.tables.world) o

abbrev pub property_lost : Limits → Option Name → Code
property_lost limits name o = with_property_lost (individual_declared limits name 0 o)

abbrev pub property_given_by : Limits → Option WorldFault → ℕ → Option Value → Code
property_given_by limits None number v o = with_world (with_given_property number v o.tables.world) o
property_given_by limits (Some f) number v o = noted limits f o

abbrev pub property_given : Limits → ℕ → Option Value → Code
property_given limits number v o = property_given_by limits (given_property_fault limits number v o.tables.world) number v o

abbrev pub individual_named : Limits → Option Name → ℕ → Option Value → Code
individual_named limits name number v o = property_given limits number v (individual_declared limits name number o)

abbrev pub individual_given_by : Limits → Option WorldFault → Option Name → Option Value → Code
individual_given_by limits None name v o =
    individual_named limits name (64 + o.tables.world.individuals) v (with_world (with_individual o.tables.world) o)
individual_given_by limits (Some f) name v o = o

abbrev pub individual_given : Limits → Option Name → Option Value → Code
individual_given limits name v o = individual_given_by limits (individual_fault o.tables.world) name v o

abbrev pub further_added_by : Limits → Option WorldFault → Value → Code
further_added_by limits None v o = with_world (with_further_value v o.tables.world) o
further_added_by limits (Some f) v o = noted limits f o

abbrev pub further_added : Limits → Value → Code
further_added limits v o = further_added_by limits (further_value_fault limits v o.tables.world) v o

-- The finding about a property, whose name is at the place `at`, and about its first value. A name that is not declared is that of a new
-- one.
abbrev pub number_finding : Limits → Option ℕ → Option Value → ℕ → Compilation → Option Finding
number_finding limits None v at w = Some (wrong_kind (order at))
number_finding limits (Some number) v at w = refused_finding (given_property_fault limits number v w.output.tables.world) (order at)

abbrev pub property_finding_by : Limits → Found Place → ℕ → Option Value → Compilation → Option Finding
property_finding_by limits (Found.System m) at v w = number_finding limits (property_in m) v at w
property_finding_by limits (Found.Declared m first) at v w = number_finding limits (property_in m) v at w
property_finding_by limits Found.Used at v w = None
property_finding_by limits Found.Unknown at v w = None

abbrev pub property_finding : Limits → ℕ → Option Value → Compilation → Option Finding
property_finding limits at v w = property_finding_by limits (found_at at w) at v w

abbrev pub further_finding : Limits → Value → Compilation → Option Finding
further_finding limits v w = refused_finding (further_value_fault limits v w.output.tables.world) 0

-- the finding about the property to which a value goes: the one whose name comes before it, or the one that was given last
abbrev pub place_finding : Limits → Option ℕ → Value → Compilation → Option Finding
place_finding limits None v w = further_finding limits v w
place_finding limits (Some at) v w = property_finding limits at (Some v) w

abbrev pub property_gives_by : Limits → Option ℕ → ℕ → Option Value → Compilation → Compilation
property_gives_by limits None at v w = record w { output = individual_given limits (name_at w.unit.tokens at) v w.output }
property_gives_by limits (Some number) at v w = record w { output = property_given limits number v w.output }

abbrev pub property_gives : Limits → ℕ → Option Value → Compilation → Compilation
property_gives limits at v w = property_gives_by limits (property_of (found_at at w)) at v w

abbrev pub given_with : Limits → Option Finding → ℕ → Option Value → Compilation → Compilation
given_with limits None at v w = property_gives limits at v w
given_with limits (Some f) at v w = record w { output = property_lost limits (name_at w.unit.tokens at) w.output }

-- the finding about a property, with that about its value
abbrev pub given_finding : Limits → ℕ → Option Value → Option Finding → Compilation → Option Finding
given_finding limits at v of_value w = least_of_both (property_finding limits at v w) of_value

abbrev pub given : Limits → ℕ → Option Value → Option Finding → Compilation → Compilation
given limits at v of_value w =
    given_with limits (given_finding limits at v of_value w) at v (record w { is_name = is_words (property_of (found_at at w)) })

abbrev pub further_placed : Limits → Option Finding → Value → Compilation → Compilation
further_placed limits None v w = record w { output = further_added limits v w.output }
further_placed limits (Some f) v w = w

abbrev pub further_found : Limits → Value → Option Finding → Compilation → Option Finding
further_found limits v of_value w = least_of_both of_value (further_finding limits v w)

abbrev pub further : Limits → Value → Option Finding → Compilation → Compilation
further limits v of_value w = further_placed limits (further_found limits v of_value w) v w

abbrev pub placed_finding : Limits → Option ℕ → Value → Option Finding → Compilation → Option Finding
placed_finding limits None v of_value w = further_found limits v of_value w
placed_finding limits (Some at) v of_value w = given_finding limits at (Some v) of_value w

abbrev pub placed : Limits → Option ℕ → Value → Option Finding → Compilation → Compilation
placed limits None v of_value w = further limits v of_value w
placed limits (Some at) v of_value w = given limits at (Some v) of_value w

-- a property without values
abbrev pub property_read : Limits → Context → Place → Compilation → Compilation
property_read limits context place w =
    let at = last_at w.unit.tokens in
    entry_told limits context (first_place w.unit.tokens place) (given_finding limits at None None w) (given limits at None None w)
