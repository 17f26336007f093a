-- Questions about a tree.
use Rattle.std.specs.Prelude.{Bool, true, false, Option, Some, None, if◌then◌else◌}
use Rattle.inf_area.specs.declared.targets.Value.{Value}
use Rattle.inf_expressions.specs.{declared.operators.Binary.Binary, declared.operators.Operand.Operand, declared.operators.Test.Test}
use Rattle.inf_expressions.specs.Trees.{Tree, Leaf, Two}

-- the operand that a tree is without code
abbrev pub operand_of : Tree → Option Operand
operand_of (Leaf operand) = Some operand
operand_of _ = None

abbrev pub constant_of : Tree → Option Value
constant_of (Leaf (Operand.Known n)) = Some (Value.Known n)
constant_of (Leaf (Operand.Later target)) = Some (Value.Later target)
constant_of _ = None

-- the least and the greatest value of a range
abbrev pub range_of : Tree → Option (Tree × Tree)
range_of (Two Binary.To least greatest) = Some (least, greatest)
range_of _ = None

abbrev pub is_list : Tree → Bool
is_list (Two Binary.Then a others) = true
is_list _ = false

-- the tree `e` of `v in e`, where that is a single expression
abbrev pub children_of : Tree → Option Tree
children_of (Two (Binary.Test Test.In) (Leaf v) e) = if is_list e then None else Some e
children_of _ = None
