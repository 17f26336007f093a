-- The directive `Property`. Designer's Manual, fourth edition, section 3.
use Rattle.std.specs.Prelude.{ℕ, ◌+◌, ◌%◌, min, nat_le, List, [], ◌∷◌, length, Bool, true, if◌then◌else◌, Option, Some, None}
use Rattle.inf_settings.specs.Bounds.{Limits}
use Rattle.inf_area.specs.declared.targets.Value.{Value}
use Rattle.inf_scanner.specs.declared.tokens.Place.{Place}
use Rattle.inf_expressions.specs.declared.findings.Finding.{Finding}
use Rattle.inf_names.specs.{Spellings.Name, declared.meanings.Meaning.Meaning}
use Rattle.inf_output.specs.Output.{Code, Out}
use Rattle.inf_report.specs.declared.messages.FixedLimit.{FixedLimit}
use Rattle.inf_compilation.specs.{Actions.Compilation, Actions.passed, Actions.settled_of, Context.Context}
use Rattle.inf_unit.specs.{Tokens.SourceToken, Units.name_order, Units.order}
use Rattle.inf_tables.specs.{World.property_fault, World.with_property, declared.faults.WorldFault.WorldFault}
use Rattle.inf_named_values.specs.{Values.value_of, declared.declarations.Declared.Declared}
use Rattle.inf_named_values.specs.Declarations.{alias_told, declaration_ended, is_additive, is_alias, name_declared, nothing_of, valued}
use Rattle.inf_named_values.specs.Declarations.{with_world}

-- one more property of the world, unless there are as many as there may be
abbrev pub new_property_by : Option WorldFault → Bool → Value → Code
new_property_by None is_additive v o = with_world (with_property is_additive v o.tables.world) o
new_property_by (Some fault) is_additive v o = o

abbrev pub new_property : Bool → Value → Code
new_property is_additive v o = new_property_by (property_fault o.tables.world) is_additive v o

abbrev pub property_number : Out → ℕ
property_number o = 4 + length o.tables.world.declared % 252

abbrev pub property_added : Limits → Context → Option Finding → Name → Bool → Compilation → Out
property_added limits context (Some f) name is_additive w = name_declared limits name (nothing_of FixedLimit.Properties) w.output
property_added limits context None name is_additive w =
    let o = (settled_of limits context w).out in
    new_property is_additive (value_of limits context w) (name_declared limits name (Meaning.Property (property_number o) is_additive) o)

abbrev pub property_order : List SourceToken → Bool → ℕ
property_order tokens is_additive = if is_additive then min (name_order tokens + 1) 4294967295 else name_order tokens

abbrev pub property_ended : Limits → Context → Place → Bool → Name → Declared → Compilation → Compilation
property_ended limits context first is_additive name d w = declaration_ended limits context first name FixedLimit.Properties d
    (record w { output = property_added limits context d.finding name is_additive w })

abbrev pub has_most_properties : Out → Bool
has_most_properties o = nat_le 60 (length o.tables.world.declared)

abbrev pub property_with : Limits → Context → Place → Bool → Name → Compilation → Compilation
property_with limits context first is_additive name w =
    let order = property_order w.unit.tokens is_additive in
    property_ended limits context first is_additive name (valued name order (has_most_properties w.output) w) w

abbrev pub property_named : Limits → Context → Place → Bool → List Name → Compilation → Compilation
property_named limits context first is_additive [] w = passed true w
property_named limits context first is_additive (name ∷ names) w =
    if is_alias names w.unit.gathering.leaves then alias_told limits context first name (property_order w.unit.tokens is_additive)
    FixedLimit.Properties w
    else property_with limits context first is_additive name w

abbrev pub names_behind : Bool → List Name → List Name
names_behind is_additive [] = []
names_behind is_additive (word ∷ names) = if is_additive then names else word ∷ names

abbrev pub property_names : List Name → List Name
property_names names = names_behind (is_additive names) names

abbrev pub property : Limits → Context → Place → List Name → Compilation → Compilation
property limits context first names w = property_named limits context first (is_additive names) (property_names names) w
