use Rattle.std.proofs.Common.{◌≡◌, drop}
use Rattle.inf_properties.specs.Properties.{values_of}
use Rattle.inf_properties.proofs.lists.values_of.Given as goal

abbrev pub invariant-loop-property : goal.invariant-loop-property
invariant-loop-property l = values_of l.number (drop l.property-index l.properties) ≡ values_of l.number l.properties
