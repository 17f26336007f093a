-- The directive `Global`. Designer's Manual, fourth edition, section 2.
use Rattle.std.specs.Prelude.{◌+◌, nat_le, List, [], ◌∷◌, ◌++◌, length, Bool, true, if◌then◌else◌, Option, Some, None}
use Rattle.inf_settings.specs.Bounds.{Limits}
use Rattle.inf_area.specs.declared.targets.Value.{Value}
use Rattle.inf_scanner.specs.declared.tokens.Place.{Place}
use Rattle.inf_expressions.specs.declared.findings.Finding.{Finding}
use Rattle.inf_names.specs.{Spellings.Name, declared.meanings.Meaning.Meaning}
use Rattle.inf_output.specs.Output.{Code, Out}
use Rattle.inf_report.specs.declared.messages.FixedLimit.{FixedLimit}
use Rattle.inf_compilation.specs.{Actions.Compilation, Actions.passed, Actions.settled_of, Context.Context}
use Rattle.inf_unit.specs.Units.{name_order}
use Rattle.inf_named_values.specs.{Values.value_of, declared.declarations.Declared.Declared}
use Rattle.inf_named_values.specs.Declarations.{declaration_ended, name_declared, nothing_of, valued}

-- one more global variable, with its value
abbrev pub with_variable : Value → Code
with_variable v o = record o { tables = record o.tables { globals = o.tables.globals ++ v ∷ [] } }

abbrev pub new_global : Value → Code
new_global v o = if nat_le 235 (length o.tables.globals) then o else with_variable v o

abbrev pub global_added : Limits → Context → Option Finding → Name → Compilation → Out
global_added limits context (Some f) name w = name_declared limits name (nothing_of FixedLimit.Globals) w.output
global_added limits context None name w =
    let o = (settled_of limits context w).out in
    new_global (value_of limits context w) (name_declared limits name (Meaning.Variable (16 + length o.tables.globals)) o)

abbrev pub global_ended : Limits → Context → Place → Name → Declared → Compilation → Compilation
global_ended limits context first name d w =
    declaration_ended limits context first name FixedLimit.Globals d (record w { output = global_added limits context d.finding name w })

abbrev pub has_most_globals : Out → Bool
has_most_globals o = nat_le 235 (length o.tables.globals)

abbrev pub global_with : Limits → Context → Place → Name → Compilation → Compilation
global_with limits context first name w =
    global_ended limits context first name (valued name (name_order w.unit.tokens) (has_most_globals w.output) w) w

abbrev pub global_variable : Limits → Context → Place → List Name → Compilation → Compilation
global_variable limits context first [] w = passed true w
global_variable limits context first (name ∷ names) w = global_with limits context first name w
