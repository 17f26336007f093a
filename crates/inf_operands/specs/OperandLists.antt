-- The operands of the leaves of a unit that the code's list of them stands for.
use Rattle.std.specs.Prelude.{List}
use Rattle.inf_expressions.specs.declared.operators.Operand.{Operand}
use Rattle.inf_operands.specs.declared.operand_lists.OperandList.{OperandList}

abbrev pub operands_in : OperandList → List Operand
operands_in (OperandList.One one) = one
operands_in (OperandList.Many many) = many.items
