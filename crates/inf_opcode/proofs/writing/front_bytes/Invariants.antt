use Rattle.std.proofs.Common.{◌≡◌, ◌≤◌, ◌+◌, ◌*◌, ◌++◌, take, length, flat_map}
use Rattle.inf_opcode.specs.{Cells.long_bytes, Instructions.heading, Instructions.operand_cells, Opcodes.row_of}
use Rattle.inf_opcode.proofs.writing.front_bytes.Given as goal

-- the operands so far are written behind the heading
abbrev pub invariant-loop-operand : goal.invariant-loop-operand
invariant-loop-operand l = record {
  bytes : l.bytes.items ≡ heading (row_of l.fn.instruction.opcode) l.operands ++ long_bytes
      (flat_map operand_cells (take l.operand-index l.operands));
  few : length l.bytes.items ≤ 4 + 2 * l.operand-index;
}
