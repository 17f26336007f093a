-- One more operand is counted.
use Rattle.std.proofs.Common.{ap, get_or, take, length, arith, flat_map}
use Rattle.inf_opcode.specs.{Instructions.operand_cells, declared.instructions.Operand.Operand}
use Rattle.inf_opcode.specs.Cells.{long_bytes, label_count, fixup_count}
use Rattle.inf_opcode.proofs.Counting.{length-long, labels-append, fixups-append, operands_more}
use Rattle.inf_opcode.proofs.writing.operands_counts.Goals as goal

pub loop-operand-preserved : goal.loop-operand-preserved
loop-operand-preserved c =
    let operands = c.args.operands.now in let i = c.loop-operand.operand-index in
    let more = operands_more operands i (Operand.Large 0) c.loop-operand-test.true in
    let before = flat_map operand_cells (take i operands) in
    let here = operand_cells (get_or operands i (Operand.Large 0)) in let now = c.loop-operand.invariant in
    let one = c.operand_counts-one.ensures in
    record {
      bytes = omega (arith, now.bytes, ap (λ x. x.bytes) one.value, length-long before here, ap (λ cs. length (long_bytes cs)) more);
      labels = omega (arith, now.labels, ap (λ x. x.labels) one.value, labels-append before here, ap label_count more);
      fixups = omega (arith, now.fixups, ap (λ x. x.fixups) one.value, fixups-append before here, ap fixup_count more);
      few_bytes = omega (arith, now.few_bytes, one.bytes);
      few_labels = omega (arith, now.few_labels, one.labels);
      few_fixups = omega (arith, now.few_fixups, one.fixups);
    }
