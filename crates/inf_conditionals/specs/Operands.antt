-- The operands of a condition's names: those names have values that were declared by the directives before its own.
use Rattle.std.specs.Prelude.{ℕ, List, [], ◌∷◌, ◌++◌, false, if◌then◌else◌, Option, Some, None}
use Rattle.inf_settings.specs.Bounds.{Limits}
use Rattle.inf_area.specs.{declared.scale.Scale.Scale, declared.targets.Target.Target}
use Rattle.inf_scanner.specs.declared.tokens.Place.{Place}
use Rattle.inf_expressions.specs.declared.operators.Operand.{Operand}
use Rattle.inf_gathering.specs.declared.gathering.Leaf.{Leaf}
use Rattle.inf_names.specs.{Spellings.Name, Symbols.Table, Symbols.declared_before, Symbols.found_in, Symbols.no_names}
use Rattle.inf_output.specs.{Actions.action_of, Output.Code, Output.Out}
use Rattle.inf_operands.specs.Operands.{found_operand, looked_action, system_operand}
use Rattle.inf_unit.specs.{Tokens.SourceToken, Units.bytes_at, Units.name_at}

-- the operand of every other name, which is known later: no code asks for its number
abbrev pub later : Operand
later = Operand.Later (Target.Name 0)

-- the operand of a name, where `declared` names were declared by the directives before
abbrev pub name_operand : ℕ → Table Place → List ℕ → Operand
name_operand declared names bytes = if declared_before bytes declared names then found_operand (found_in bytes names) None else later

-- the bytes of a name among the tokens of the condition, or none
abbrev pub bytes_of : Option Name → List ℕ
bytes_of None = []
bytes_of (Some n) = n.bytes

-- the operand of a leaf that is no action, in a story of a version
abbrev pub leaf_operand : ℕ → Table Place → Scale → List SourceToken → Leaf → Operand
leaf_operand declared names scale tokens (Leaf.Name at) = name_operand declared names (bytes_of (name_at tokens at))
leaf_operand declared names scale tokens (Leaf.Alone at) = name_operand declared names (bytes_of (name_at tokens at))
leaf_operand declared names scale tokens (Leaf.Number number) = Operand.Known number
leaf_operand declared names scale tokens (Leaf.Char zscii) = Operand.Known zscii
leaf_operand declared names scale tokens (Leaf.Word word) = later
leaf_operand declared names scale tokens (Leaf.Text at) = later
leaf_operand declared names scale tokens (Leaf.Action at) = Operand.Unknown
leaf_operand declared names scale tokens (Leaf.System at) = system_operand (bytes_at tokens at) scale

-- the operand of a leaf: an action has its number, and one that did not appear is the next, behind new ones of its condition
abbrev pub operand_behind : ℕ → Out → List SourceToken → Leaf → Table Place → Table Place × Operand
operand_behind declared o tokens (Leaf.Action at) ahead = looked_action (name_at tokens at) o ahead
operand_behind declared o tokens l ahead = (ahead, leaf_operand declared o.names o.code.scale tokens l)

-- the operands of leaves, behind others
abbrev pub operands_from : ℕ → Out → List SourceToken → List Leaf → Table Place → List Operand → List Operand
operands_from declared o tokens [] ahead operands = operands
operands_from declared o tokens (l ∷ leaves) ahead operands =
    let s = operand_behind declared o tokens l ahead in operands_from declared o tokens leaves s.0 (operands ++ s.1 ∷ [])

abbrev pub operands_of : ℕ → Out → List SourceToken → List Leaf → List Operand
operands_of declared o tokens leaves = operands_from declared o tokens leaves (no_names false) []

-- The actions of a condition without an error appear.
abbrev pub appeared_by : Limits → Option Name → Code
appeared_by limits None o = o
appeared_by limits (Some n) o = (action_of limits n.bytes n.place o).0

abbrev pub action_added : Limits → List SourceToken → Leaf → Code
action_added limits tokens (Leaf.Action at) o = appeared_by limits (name_at tokens at) o
action_added limits tokens _ o = o

abbrev pub actions_added : Limits → List SourceToken → List Leaf → Code
actions_added limits tokens [] o = o
actions_added limits tokens (l ∷ leaves) o = actions_added limits tokens leaves (action_added limits tokens l o)
