use Rattle.std.proofs.Common.{◌≡◌, ◌++◌, drop}
use Rattle.inf_objects.specs.Tables.{individual_rows_cells}
use Rattle.inf_objects.proofs.tables.add_individuals.Given as goal

abbrev pub invariant-loop-property : goal.invariant-loop-property
invariant-loop-property l =
    l.cells ++ individual_rows_cells (drop l.property-index l.properties) ≡ l.initial.cells ++ individual_rows_cells l.properties
