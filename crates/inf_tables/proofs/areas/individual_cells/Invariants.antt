use Rattle.std.proofs.Common.{◌≡◌, ◌++◌, drop}
use Rattle.inf_tables.specs.Areas.{individual_tables}
use Rattle.inf_tables.proofs.areas.individual_cells.Given as goal

abbrev pub invariant-loop-object : goal.invariant-loop-object
invariant-loop-object l = l.cells ++ individual_tables (drop l.object-index l.objects) ≡ individual_tables l.objects
