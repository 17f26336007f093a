use Rattle.std.proofs.Common.{◌≡◌, ◌≤◌, ◌*◌, take, flat_map}
use Rattle.inf_opcode.specs.{Counts.counts_of, Instructions.operand_cells}
use Rattle.inf_opcode.proofs.writing.operands_counts.Given as goal

-- the operands so far are counted
abbrev pub invariant-loop-operand : goal.invariant-loop-operand
invariant-loop-operand l =
    let counts = counts_of (flat_map operand_cells (take l.operand-index l.operands)) in
    record {
      bytes : l.bytes ≡ counts.bytes;
      labels : l.labels ≡ counts.labels;
      fixups : l.fixups ≡ counts.fixups;
      few_bytes : l.bytes ≤ 2 * l.operand-index;
      few_labels : l.labels ≤ l.operand-index;
      few_fixups : l.fixups ≤ l.operand-index;
    }
