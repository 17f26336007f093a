use Rattle.std.proofs.Common.{◌≡◌, ◌+◌, ◌≤◌, true, drop}
use Rattle.inf_properties.specs.Sizes.{are_short, bytes_of, fixups_of, individuals_of}
use Rattle.inf_properties.proofs.lists.total_within.Given as goal

abbrev pub invariant-loop-property : goal.invariant-loop-property
invariant-loop-property l = record {
  bytes : l.size.bytes + bytes_of l.owner (drop l.property-index l.properties) ≡ bytes_of l.owner l.properties;
  fixups : l.size.fixups + fixups_of l.owner (drop l.property-index l.properties) ≡ fixups_of l.owner l.properties;
  individuals : l.size.individuals + individuals_of l.owner (drop l.property-index l.properties) ≡ individuals_of l.owner l.properties;
  within : l.size.bytes ≤ l.most;
  few_fixups : l.size.fixups ≤ l.size.bytes;
  few_individuals : l.size.individuals ≤ l.size.bytes;
  short : are_short (drop l.property-index l.properties) ≡ true;
}
