-- Leaves whose names are looked up and then used: of some the use changes nothing.
use Rattle.std.specs.Prelude.{◌≡◌, ℕ, nat_le, List, [], Bool, false}
use Rattle.inf_area.specs.declared.targets.Target.{Target}
use Rattle.inf_settings.specs.Bounds.{Limits}
use Rattle.inf_characters.specs.declared.characters.CharSet.{CharSet}
use Rattle.inf_expressions.specs.declared.operators.Operand.{Operand}
use Rattle.inf_gathering.specs.declared.gathering.Leaf.{Leaf}
use Rattle.inf_names.specs.Locals.{Local}
use Rattle.inf_unit.specs.Tokens.{SourceToken}
use Rattle.inf_output.specs.Output.{Out}
use Rattle.inf_operands.specs.Operands.{looked, settled, settled_leaf}

-- Tells whether an operand is a reference to a name that is none of the first `count`.
abbrev pub is_new : ℕ → Operand → Bool
is_new count (Operand.Later (Target.Name number)) = nat_le count number
is_new count op = false

-- Tells that the use of a leaf changes nothing and gives an operand, if looking the leaf up gives this operand.
abbrev pub LeafStays : Out → List SourceToken → Leaf → Operand → Type 0
LeafStays o tokens l op = (limits : Limits) (set : CharSet) (locals : List Local) → op ≡ looked locals o.names o.code.scale tokens l
    → settled_leaf limits set locals tokens l o ≡ (o, op)

-- Tells that the use of some leaves changes nothing and gives these operands.
abbrev pub LeavesStay : List Local → Out → List SourceToken → List Leaf → List Operand → Type 0
LeavesStay locals o tokens leaves operands =
    (limits : Limits) (set : CharSet) → settled limits set locals tokens leaves (record { out = o; operands = [] })
    ≡ record { out = o; operands = operands }
