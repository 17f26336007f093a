use Rattle.std.proofs.Common.{◌≡◌, drop}
use Rattle.inf_opcode.specs.Instructions.{has_no_offset}
use Rattle.inf_row_tests.proofs.proper.has_no_offset.Given as goal

-- the operands that are left have an offset where all have one
abbrev pub invariant-loop-operand : goal.invariant-loop-operand
invariant-loop-operand l = has_no_offset (drop l.operand-index l.operands) ≡ has_no_offset l.operands
