use Rattle.std.proofs.Common.{◌-◌, ◌++◌, append_assoc, sym, ap, ◌∙◌, arith}
use Rattle.inf_objects.specs.Tables.{falling, rows_cells, rows_for, rows_of}
use Rattle.inf_objects.proofs.Rows.{falling-step}
use Rattle.inf_objects.proofs.tables.add_rows.Goals as goal

pub loop-left-preserved : goal.loop-left-preserved
loop-left-preserved c =
    let before = c.loop-left.cells in let n = c.loop-left.left - 1 in let o = c.args.object.now in
    let part = c.args.part in
    let step = falling-step part n c.loop-left.left o (omega (arith, c.loop-left-test.true)) c.requires.owner c.requires.free in (
      ap (λ cs. cs ++ rows_cells (falling n (rows_of part o))) c.in_ok-add_row.ensures
          ∙ append_assoc before (rows_cells (rows_for part o n)) (rows_cells (falling n (rows_of part o)))
          ∙ ap (λ cs. before ++ cs) (sym step) ∙ c.loop-left.invariant.0,
      omega (arith, c.loop-left.invariant.1),
    )
