use Rattle.std.proofs.Common.{◌≡◌, ◌++◌, drop}
use Rattle.inf_tables.specs.Areas.{all_objects, parents_of}
use Rattle.inf_tables.proofs.areas.parents_of.Given as goal

abbrev pub invariant-loop-object : goal.invariant-loop-object
invariant-loop-object l = l.parents.items ++ parents_of (drop l.object-index l.objects) ≡ parents_of (all_objects l.objects)
