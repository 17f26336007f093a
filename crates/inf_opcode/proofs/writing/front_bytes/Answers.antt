-- One more operand is written behind the heading.
use Rattle.std.proofs.Common.{◌++◌, ◌∙◌, ap, arith, get_or}
use Rattle.inf_opcode.specs.{Cells.long_bytes, Opcodes.row_of, declared.instructions.Operand.Operand}
use Rattle.inf_opcode.specs.Instructions.{heading, operand_cells}
use Rattle.inf_opcode.proofs.Fronts.{long-more}
use Rattle.inf_opcode.proofs.writing.front_bytes.Goals as goal

pub loop-operand-preserved : goal.loop-operand-preserved
loop-operand-preserved c =
    let instruction = c.args.instruction.now in let operands = instruction.operands.now in
    let i = c.loop-operand.operand-index in let inv = c.loop-operand.invariant in
    record {
      bytes = c.push_operand.ensures.value ∙ ap (λ b. b ++ long_bytes (operand_cells (get_or operands i (Operand.Large 0)))) inv.bytes
          ∙ long-more (heading (row_of instruction.opcode) operands) operands i (Operand.Large 0) c.loop-operand-test.true;
      few = omega (arith, inv.few, c.push_operand.ensures.few);
    }
