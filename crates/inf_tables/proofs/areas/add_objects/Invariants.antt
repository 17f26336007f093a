use Rattle.std.proofs.Common.{◌≡◌, ◌+◌, ◌++◌, drop}
use Rattle.inf_tables.specs.Areas.{entries_by}
use Rattle.inf_tables.proofs.areas.add_objects.Given as goal

abbrev pub invariant-loop-place : goal.invariant-loop-place
invariant-loop-place l =
    l.cells ++ entries_by l.links (4 + l.place) (drop l.place l.objects) ≡ l.initial.cells ++ entries_by l.links 4 l.objects
