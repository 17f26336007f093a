use Rattle.std.proofs.Common.{◌≡◌, ◌+◌, ◌++◌, drop}
use Rattle.inf_tables.specs.Areas.{tables_from}
use Rattle.inf_tables.proofs.areas.add_tables.Given as goal

abbrev pub invariant-loop-place : goal.invariant-loop-place
invariant-loop-place l = l.cells ++ tables_from (4 + l.place) (drop l.place l.objects) ≡ l.initial.cells ++ tables_from 4 l.objects
