-- The end of an expression that is read by itself, by the use that is made of it, and that of a constant.
use Rattle.std.specs.Prelude.{List, [], ◌∷◌, map, false, if◌then◌else◌, Option, Some, None}
use Rattle.inf_area.specs.declared.targets.Value.{Value}
use Rattle.inf_settings.specs.Bounds.{Limits}
use Rattle.inf_scanner.specs.declared.tokens.Place.{Place}
use Rattle.inf_expressions.specs.{Trees.Tree, declared.findings.Finding.Finding, declared.units.Wanted.Wanted}
use Rattle.inf_output.specs.{Output.Code, Output.nothing, declared.operands.Simple.Simple}
use Rattle.inf_templates.specs.{Meaning.Meaning, Meaning.meaning, Meaning.part, Parts.operand_of, Parts.worked_out}
use Rattle.inf_unit.specs.Units.{order, own_place}
use Rattle.inf_constructs.specs.Roots.{tree_in}
use Rattle.inf_operands.specs.Operands.{leaves_named}
use Rattle.inf_compilation.specs.{Context.Context, Findings.found_alone, Findings.nothing_found}
use Rattle.inf_compilation.specs.Actions.{Compilation, finding_at, passed, settled_of, trees_at, unit_ended}
use Rattle.inf_named_values.specs.Values.{value_of}
use Rattle.inf_alone.specs.declared.ending.{Ended.Ended, Told.Told, Use.Use}

-- The code of an expression by its use. A simple expression is its own operand, and needs no code to be one.
abbrev pub code_for : Use → Meaning → Code
code_for Use.Nothing m = m.alone
code_for Use.Operand m = worked_out (part m)
code_for (Use.Variable v) m = m.value v
code_for (Use.Branch sense label) m = m.branch sense label

-- The operand that an expression leaves.
abbrev pub left_by : Use → Meaning → Option Simple
left_by Use.Nothing m = None
left_by Use.Operand m = Some (operand_of (part m))
left_by (Use.Variable v) m = Some (Simple.Variable v)
left_by (Use.Branch sense label) m = None

abbrev pub code_of : Limits → Use → List Tree → Code
code_of limits u [] = nothing
code_of limits u (t ∷ trees) = code_for u (meaning limits t)

abbrev pub left_of : Limits → Use → List Tree → Option Simple
left_of limits u [] = None
left_of limits u (t ∷ trees) = left_by u (meaning limits t)

-- The locals that an expression names are named, also where it has an error.
abbrev pub leaves_noted : Compilation → Compilation
leaves_noted w = record w { locals = leaves_named w.unit.tokens w.unit.gathering.leaves w.locals }

-- A unit that begins at a place has no effect, since something is found in it.
abbrev pub refused : Limits → Context → Place → Finding → Compilation → Compilation
refused limits context first f w = unit_ended limits context first false (found_alone (Some f)) w

-- The work behind an expression, about which there is a finding or none, and what is told of it.
abbrev pub expression_ended : Limits → Context → Place → Use → Option Finding → Compilation → Compilation × Ended
expression_ended limits context first u (Some f) w = (refused limits context first f w, Ended.Wrong f)
expression_ended limits context first u None w =
    let s = settled_of limits context w in
    let trees = map tree_in (trees_at (order w.unit.begun) Wanted.Value s.operands w) in (
      unit_ended limits context first false nothing_found (record w { output = code_of limits u trees (record s.out { first = first }) }),
      Ended.Laid (left_of limits u trees),
    )

abbrev pub alone_finished : Limits → Context → Place → Use → Compilation → Compilation × Ended
alone_finished limits context first u w =
    expression_ended limits context first u (finding_at (order w.unit.begun) Wanted.Value w) (leaves_noted w)

-- The end of an expression before a token at a place. In a routine that is passed over nothing has an effect.
abbrev pub alone_ended : Limits → Context → Place → Use → Compilation → Compilation × Ended
alone_ended limits context place u w =
    if w.is_replaced then (passed false w, Ended.Laid None) else alone_finished limits context (own_place w.unit place) u w

-- The work behind a constant, about which there is a finding or none, and its value: the names in it are used.
abbrev pub constant_ended : Limits → Context → Place → Option Finding → Compilation → Compilation × Told
constant_ended limits context first (Some f) w = (refused limits context first f w, Told.Wrong f)
constant_ended limits context first None w = (
  unit_ended limits context first false nothing_found (record w { output = (settled_of limits context w).out }),
  Told.Is (value_of limits context w),
)

-- The end of a constant before a token at a place.
abbrev pub constant_alone : Limits → Context → Place → Compilation → Compilation × Told
constant_alone limits context place w = constant_ended limits context (own_place w.unit place) (finding_at 0 Wanted.Constant w) w
