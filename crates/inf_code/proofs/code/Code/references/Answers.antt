-- Each fixup is a reference that is known later.
use Rattle.std.proofs.Common.{◌+◌, ◌∙◌, cond, ap, sym, arith}
use Rattle.inf_area.specs.Cells.{later_count}
use Rattle.inf_code.specs.Code.{reference_count, source_bytes, source_cells}
use Rattle.inf_code.proofs.Full.{later_stands_for}
use Rattle.inf_code.proofs.code.Code.references.Goals as goal

pub overflow_add-result : goal.overflow_add-result
overflow_add-result g c = omega (arith, c.len.ensures.limited, c.self.invariant.0.limit)

pub overflow_add-result-else-self : goal.overflow_add-result-else-self
overflow_add-result-else-self g c = omega (arith, c.len-else-self.ensures.limited, c.self.invariant.0.limit)

pub returns-then-self-clause-value : goal.returns-then-self-clause-value
returns-then-self-clause-value g c =
    let inside = c.self.inside in let cells = source_cells inside.finished inside.refs inside.area in
    let count = c.len.ensures.value
    ∙ sym (later_stands_for 8 inside.refs.list (source_bytes inside.finished inside.area) cells c.self.invariant.0.stands) in
    ap (λ n. 5 + n) count ∙ ap (λ b. cond b 5 4 + later_count cells) (sym c.if-self.true) ∙ ap reference_count c.self.view_is

pub returns-else-self-clause-value : goal.returns-else-self-clause-value
returns-else-self-clause-value g c =
    let inside = c.self.inside in let cells = source_cells inside.finished inside.refs inside.area in
    let count = c.len-else-self.ensures.value
    ∙ sym (later_stands_for 8 inside.refs.list (source_bytes inside.finished inside.area) cells c.self.invariant.0.stands) in
    ap (λ n. 4 + n) count ∙ ap (λ b. cond b 5 4 + later_count cells) (sym c.if-self.false) ∙ ap reference_count c.self.view_is
