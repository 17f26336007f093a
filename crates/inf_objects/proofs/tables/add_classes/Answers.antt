use Rattle.std.proofs.Common.{◌≡◌, ◌<◌, ◌++◌, OnOk, length, append_assoc, sym, subst, ◌∙◌, arith}
use Rattle.std.proofs.lemmas.Bool.{eqb-false}
use Rattle.inf_area.specs.Cells.{values_cells}
use Rattle.inf_objects.specs.Tables.{class_values, size_cells}
use Rattle.inf_objects.proofs.Rows.{class_rows_cells}
use Rattle.inf_objects.proofs.tables.add_classes.Goals as goal

pub returns : goal.returns
returns c =
    let cs = c.args.classes.now in let before = c.args.cells.now in let size = size_cells 2 (length cs) in
    let values = values_cells (class_values cs) in
    let some : 0 < length cs = omega (arith, eqb-false (length cs) 0 (sym c.is_empty.ensures ∙ c.if-is_empty.false)) in
    subst (λ cells. OnOk c.add_numbers.result (c.add_numbers.new.cells ≡ before ++ cells)) (sym (class_rows_cells cs some))
    (subst (λ cells. OnOk c.add_numbers.result (c.add_numbers.new.cells ≡ cells)) (append_assoc before size values)
    (subst (λ cells. OnOk c.add_numbers.result (c.add_numbers.new.cells ≡ cells ++ values)) c.in_ok-add_size.ensures c.add_numbers.ensures))
