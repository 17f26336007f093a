use Rattle.std.proofs.Common.{◌≡◌, drop}
use Rattle.inf_properties.specs.Sizes.{are_short}
use Rattle.inf_properties.proofs.sizes.are_short.Given as goal

abbrev pub invariant-loop-property : goal.invariant-loop-property
invariant-loop-property l = are_short (drop l.property-index l.properties) ≡ are_short l.properties
