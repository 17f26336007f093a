-- The parts are counted one by one.
use Rattle.std.proofs.Common.{◌≡◌, ℕ, ◌+◌, ◌*◌, ◌++◌, ◌∙◌, ap, length, arith, flat_map}
use Rattle.inf_opcode.specs.{Cells.plain, Counts.counts_of, Opcodes.row_of, PartsOf.parts_of, declared.writing.Counts.Counts}
use Rattle.inf_opcode.specs.Instructions.{heading, operand_cells, store_cells, branch_cells, front_cells}
use Rattle.inf_opcode.proofs.Growing.{long-plain}
use Rattle.inf_opcode.proofs.Counting.{length-long, labels-append, fixups-append, labels-plain, fixups-plain}
use Rattle.inf_opcode.proofs.writing.instruction_counts.Goals as goal

pub returns-clause-value : goal.returns-clause-value
returns-clause-value c =
    let make : ℕ → ℕ → ℕ → Counts = λ b l h. record { bytes = b; labels = l; fixups = h } in
    let instruction = c.args.instruction.now in let operands = instruction.operands.now in
    let head = heading (row_of instruction.opcode) operands in let a = plain head in
    let b = flat_map operand_cells operands in let s = store_cells instruction.store in
    let r = branch_cells instruction.branch in let all = counts_of (front_cells (parts_of instruction)) in
    let given = c.operands_counts-given.ensures.value in
    let first : c.heading_len-head.result ≡ length head =
    c.heading_len-head.ensures.value ∙ ap (λ row. length (heading row operands)) c.row.ensures.exact in
    let bytes : c.heading_len-head.result + c.operands_counts-given.result.bytes + c.store_len-store.result + 2 *
    c.branch_count-branch.result ≡ all.bytes = omega (
      arith,
      first,
      ap (λ x. x.bytes) given,
      c.store_len-store.ensures.bytes,
      c.branch_count-branch.ensures.bytes,
      length-long (a ++ b ++ s) r,
      length-long (a ++ b) s,
      length-long a b,
      ap length (long-plain head),
    ) in
    let labels : c.operands_counts-given.result.labels + c.branch_count-branch.result ≡ all.labels = omega (
      arith,
      ap (λ x. x.labels) given,
      c.store_len-store.ensures.labels,
      c.branch_count-branch.ensures.labels,
      labels-append (a ++ b ++ s) r,
      labels-append (a ++ b) s,
      labels-append a b,
      labels-plain head,
    ) in
    let fixups : c.operands_counts-given.result.fixups ≡ all.fixups = omega (
      arith,
      ap (λ x. x.fixups) given,
      c.store_len-store.ensures.fixups,
      c.branch_count-branch.ensures.fixups,
      fixups-append (a ++ b ++ s) r,
      fixups-append (a ++ b) s,
      fixups-append a b,
      fixups-plain head,
    ) in
    let last = c.operands_counts-given.result.fixups in
    let middle = c.operands_counts-given.result.labels + c.branch_count-branch.result in
    ap (λ n. make n middle last) bytes ∙ ap (λ n. make all.bytes n last) labels ∙ ap (make all.bytes all.labels) fixups
