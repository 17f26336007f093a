use Rattle.std.proofs.Common.{◌≡◌, drop}
use Rattle.inf_objects.specs.Tables.{has_individual}
use Rattle.inf_objects.proofs.tables.has_individual.Given as goal

abbrev pub invariant-loop-property : goal.invariant-loop-property
invariant-loop-property l = has_individual (drop l.property-index l.properties) ≡ has_individual l.properties
