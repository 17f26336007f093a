-- Code that has begun has room for its beginning.
use Rattle.std.proofs.Common.{◌+◌, ◌∙◌, cond, ap, sym, arith}
use Rattle.inf_area.specs.Cells.{size_of}
use Rattle.inf_code.specs.Code.{code_count, source_cells}
use Rattle.inf_code.proofs.CodeSteps.{size_finished}
use Rattle.inf_code.proofs.code.Code.count.Goals as goal

pub returns-then-self-clause-value : goal.returns-then-self-clause-value
returns-then-self-clause-value g c =
    let inside = c.self.inside in let cells = source_cells inside.finished inside.refs inside.area in
    let count = size_finished inside.limits inside.finished inside.refs inside.area inside.routine c.self.invariant.0 in
    sym count ∙ ap (λ b. cond b 8 0 + size_of cells) (sym c.if-self.true) ∙ ap code_count c.self.view_is

pub returns-else-self-clause-value : goal.returns-else-self-clause-value
returns-else-self-clause-value g c =
    let inside = c.self.inside in let cells = source_cells inside.finished inside.refs inside.area in
    let count = size_finished inside.limits inside.finished inside.refs inside.area inside.routine c.self.invariant.0 in
    omega (arith, count) ∙ ap (λ b. cond b 8 0 + size_of cells) (sym c.if-self.false) ∙ ap code_count c.self.view_is
