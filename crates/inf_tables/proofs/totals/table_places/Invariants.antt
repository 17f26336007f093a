use Rattle.std.proofs.Common.{◌≡◌, ◌+◌, ◌++◌, ◌≤◌, drop, sum_by}
use Rattle.inf_objects.specs.Objects.{object_bytes}
use Rattle.inf_tables.specs.{Areas.all_objects, Areas.table_places_from, World.AreHung}
use Rattle.inf_tables.proofs.totals.table_places.Given as goal

abbrev pub invariant-loop-object : goal.invariant-loop-object
invariant-loop-object l = record {
  places : l.places.items ++ table_places_from l.at (4 + l.object-index) (drop l.object-index l.objects) ≡ table_places_from 0 0
      (all_objects l.objects);
  hung : AreHung l.most (drop l.object-index l.objects);
  bytes : l.at + sum_by object_bytes (drop l.object-index l.objects) ≤ 30 + sum_by object_bytes l.objects;
}
