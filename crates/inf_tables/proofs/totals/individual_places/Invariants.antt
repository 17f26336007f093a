use Rattle.std.proofs.Common.{◌≡◌, ◌+◌, ◌++◌, ◌≤◌, drop, sum_by}
use Rattle.inf_objects.specs.Objects.{object_bytes}
use Rattle.inf_tables.specs.{Areas.all_objects, Areas.individual_places_from, World.AreHung}
use Rattle.inf_tables.proofs.totals.individual_places.Given as goal

abbrev pub invariant-loop-object : goal.invariant-loop-object
invariant-loop-object l = record {
  places : l.places.items ++ individual_places_from l.at (drop l.object-index l.objects) ≡ individual_places_from 0 (all_objects l.objects);
  hung : AreHung l.most (drop l.object-index l.objects);
  bytes : l.at + sum_by object_bytes (drop l.object-index l.objects) ≤ sum_by object_bytes l.objects;
}
