-- One more operand is kept.
use Rattle.std.proofs.Common.{◌+◌, ◌++◌, sym, ◌∙◌, ap, append_assoc, arith, length, get_or, take, flat_map}
use Rattle.inf_opcode.specs.{Cells.kept_from, Cells.long_bytes, Instructions.operand_cells, declared.instructions.Operand.Operand}
use Rattle.inf_opcode.proofs.{Counting.length-long, Counting.operands_more, Fronts.kept-more, Fronts.long-within}
use Rattle.inf_opcode.proofs.writing.keep_operands.Goals as goal

pub overflow_add-place : goal.overflow_add-place
overflow_add-place c = omega (
  arith,
  c.requires,
  c.loop-operand.invariant.place,
  c.operand_len-place.ensures.value,
  long-within c.args.operands.now c.loop-operand.operand-index (Operand.Large 0) c.loop-operand-test.true,
)

pub loop-operand-preserved : goal.loop-operand-preserved
loop-operand-preserved c =
    let operands = c.args.operands.now in let i = c.loop-operand.operand-index in let inv = c.loop-operand.invariant in
    let before = flat_map operand_cells (take i operands) in
    let here = operand_cells (get_or operands i (Operand.Large 0)) in
    let more = operands_more operands i (Operand.Large 0) c.loop-operand-test.true in
    record {
      kept = c.in_ok-keep_operand.ensures.ok ∙ ap (λ k. k ++ kept_from c.loop-operand.place here) inv.kept
          ∙ ap (λ n. (c.args.kept.now.items ++ kept_from c.args.first before) ++ kept_from n here) inv.place
          ∙ append_assoc c.args.kept.now.items (kept_from c.args.first before) (kept_from (c.args.first + length (long_bytes before)) here)
          ∙ ap (λ k. c.args.kept.now.items ++ k) (sym (kept-more c.args.first operands i (Operand.Large 0) c.loop-operand-test.true));
      place = omega (arith, inv.place, c.operand_len-place.ensures.value, length-long before here, ap (λ cs. length (long_bytes cs)) more);
    }

pub returns-in_err-keep_operand-clause-longer : goal.returns-in_err-keep_operand-clause-longer
returns-in_err-keep_operand-clause-longer c = (
  kept_from c.args.first (flat_map operand_cells (take c.loop-operand.operand-index c.args.operands.now)),
  c.in_err-keep_operand.ensures.err ∙ c.loop-operand.invariant.kept,
)
