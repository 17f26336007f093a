-- The operands are kept, and then the branch.
use Rattle.std.proofs.Common.{◌≡◌, ℕ, ◌+◌, ◌-◌, [], ◌∷◌, ◌++◌, length, Option, sym, ◌∙◌, ap, append-nil, append_assoc, arith, flat_map}
use Rattle.inf_opcode.specs.{Opcodes.row_of, declared.cells.Kept.Kept, declared.cells.Special.Special, declared.instructions.Branch.Branch}
use Rattle.inf_opcode.specs.Cells.{plain, long_bytes, kept_from}
use Rattle.inf_opcode.specs.Instructions.{heading, operand_cells, store_cells, branch_cells}
use Rattle.inf_opcode.proofs.{Counting.length-long, Fronts.kept-front, Fronts.size-front}
use Rattle.inf_opcode.proofs.writing.keep_front.Goals as goal

pub overflow_add-first : goal.overflow_add-first
overflow_add-first c =
    let instruction = c.args.instruction.now in let operands = instruction.operands.now in
    let head = heading (row_of instruction.opcode) operands in
    omega (
      arith,
      c.ranges.end,
      c.requires,
      c.heading_len.ensures.value ∙ ap (λ row. length (heading row operands)) c.row.ensures.exact,
      size-front head (flat_map operand_cells operands) (store_cells instruction.store) (branch_cells instruction.branch),
    )

pub keep_operands-requires : goal.keep_operands-requires
keep_operands-requires c =
    let instruction = c.args.instruction.now in let operands = instruction.operands.now in
    let head = heading (row_of instruction.opcode) operands in
    omega (
      arith,
      c.ranges.end,
      c.requires,
      c.heading_len.ensures.value ∙ ap (λ row. length (heading row operands)) c.row.ensures.exact,
      size-front head (flat_map operand_cells operands) (store_cells instruction.store) (branch_cells instruction.branch),
    )

pub returns-in_default-clause-ok : goal.returns-in_default-clause-ok
returns-in_default-clause-ok c =
    let instruction = c.args.instruction.now in let operands = instruction.operands.now in
    let head = heading (row_of instruction.opcode) operands in let cells = flat_map operand_cells operands in
    let first : c.args.start + c.heading_len.result ≡ c.args.start + length head =
    ap (λ n. c.args.start + n) (c.heading_len.ensures.value ∙ ap (λ row. length (heading row operands)) c.row.ensures.exact) in
    let kept = c.args.kept.now.items in
    c.in_ok-keep_operands.ensures.ok ∙ ap (λ n. kept ++ kept_from n cells) first
    ∙ ap (λ k. kept ++ k) (sym (append-nil (kept_from (c.args.start + length head) cells)))
    ∙ ap (λ k. kept ++ k) (sym (ap (λ (b : Option Branch). kept_from (c.args.start + length head) cells ++ kept_from
    (c.args.start + length (long_bytes (plain head ++ cells ++ store_cells instruction.store))) (branch_cells b)) c.in_default.is))
    ∙ ap (λ k. kept ++ k) (sym (kept-front c.args.start head cells instruction.store instruction.branch))

pub returns-in_ok-push-clause-ok : goal.returns-in_ok-push-clause-ok
returns-in_ok-push-clause-ok c =
    let instruction = c.args.instruction.now in let operands = instruction.operands.now in
    let head = heading (row_of instruction.opcode) operands in let cells = flat_map operand_cells operands in
    let front = plain head ++ cells ++ store_cells instruction.store in let branch = c.in-Some.branch in
    let first : c.args.start + c.heading_len.result ≡ c.args.start + length head =
    ap (λ n. c.args.start + n) (c.heading_len.ensures.value ∙ ap (λ row. length (heading row operands)) c.row.ensures.exact) in
    let kept = c.args.kept.now.items in let given = kept_from (c.args.start + length head) cells in
    let Entry : ℕ → Kept = λ n. record { place = n; what = Special.Branches branch } in
    let size : length (long_bytes (branch_cells instruction.branch)) ≡ 2 =
    ap (λ (b : Option Branch). length (long_bytes (branch_cells b))) c.in-Some.is in
    let place : c.args.end - 2 ≡ c.args.start + length (long_bytes front) =
    omega (arith, c.requires, size, length-long front (branch_cells instruction.branch)) in
    c.in_ok-push.ensures.items
    ∙ ap (λ k. k ++ Entry (c.args.end - 2) ∷ []) (c.in_ok-keep_operands.ensures.ok ∙ ap (λ n. kept ++ kept_from n cells) first)
    ∙ append_assoc kept given (Entry (c.args.end - 2) ∷ []) ∙ ap (λ n. kept ++ (given ++ Entry n ∷ [])) place
    ∙ ap (λ k. kept ++ k) (sym (ap (λ (b : Option Branch). given ++ kept_from (c.args.start + length (long_bytes front)) (branch_cells b))
    c.in-Some.is)) ∙ ap (λ k. kept ++ k) (sym (kept-front c.args.start head cells instruction.store instruction.branch))
