use Rattle.std.proofs.Common.{◌≡◌, ◌+◌, ◌++◌, take, length, flat_map}
use Rattle.inf_opcode.specs.{Cells.kept_from, Cells.long_bytes, Instructions.operand_cells}
use Rattle.inf_opcode.proofs.writing.keep_operands.Given as goal

-- the operands so far are kept
abbrev pub invariant-loop-operand : goal.invariant-loop-operand
invariant-loop-operand l =
    let cells = flat_map operand_cells (take l.operand-index l.operands) in
    record { kept : l.kept.items ≡ l.fn.kept.items ++ kept_from l.fn.first cells; place : l.place ≡ l.fn.first + length (long_bytes cells) }
