-- The directive `Attribute`. Designer's Manual, fourth edition, section 3.
use Rattle.std.specs.Prelude.{ℕ, ◌%◌, nat_le, List, [], ◌∷◌, Bool, true, if◌then◌else◌, Option, Some, None}
use Rattle.inf_settings.specs.Bounds.{Limits}
use Rattle.inf_scanner.specs.declared.tokens.Place.{Place}
use Rattle.inf_expressions.specs.declared.findings.Finding.{Finding}
use Rattle.inf_names.specs.{Spellings.Name, declared.meanings.Meaning.Meaning}
use Rattle.inf_output.specs.Output.{Code, Out}
use Rattle.inf_report.specs.declared.messages.FixedLimit.{FixedLimit}
use Rattle.inf_compilation.specs.{Actions.Compilation, Actions.passed, Context.Context}
use Rattle.inf_unit.specs.Units.{name_order}
use Rattle.inf_tables.specs.{World.attribute_fault, World.with_attribute, declared.faults.WorldFault.WorldFault}
use Rattle.inf_named_values.specs.declared.declarations.Declared.{Declared}
use Rattle.inf_named_values.specs.Declarations.{alias_told, declaration_ended, is_alias, name_declared, name_known, with_world}

-- one more attribute of the world, unless there are as many as there may be
abbrev pub new_attribute_by : Option WorldFault → Code
new_attribute_by None o = with_world (with_attribute o.tables.world) o
new_attribute_by (Some fault) o = o

abbrev pub new_attribute : Code
new_attribute o = new_attribute_by (attribute_fault o.tables.world) o

abbrev pub attribute_number : Out → ℕ
attribute_number o = o.tables.world.attributes % 256

-- a name whose declaration has an error stands for the first attribute
abbrev pub attribute_added : Limits → Option Finding → Name → Code
attribute_added limits (Some f) name o = name_declared limits name (Meaning.Attribute 0) o
attribute_added limits None name o = new_attribute (name_declared limits name (Meaning.Attribute (attribute_number o)) o)

abbrev pub attribute_ended : Limits → Context → Place → Name → Declared → Compilation → Compilation
attribute_ended limits context first name d w = declaration_ended limits context first name FixedLimit.Attributes d
    (record w { output = attribute_added limits d.finding name w.output })

abbrev pub has_most_attributes : Out → Bool
has_most_attributes o = nat_le 48 o.tables.world.attributes

abbrev pub attribute_with : Limits → Context → Place → Name → Compilation → Compilation
attribute_with limits context first name w =
    attribute_ended limits context first name (name_known name (name_order w.unit.tokens) (has_most_attributes w.output) w) w

abbrev pub attribute : Limits → Context → Place → List Name → Compilation → Compilation
attribute limits context first [] w = passed true w
attribute limits context first (name ∷ names) w =
    if is_alias names w.unit.gathering.leaves then alias_told limits context first name (name_order w.unit.tokens) FixedLimit.Attributes w
    else attribute_with limits context first name w
