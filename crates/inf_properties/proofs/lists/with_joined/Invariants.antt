use Rattle.std.proofs.Common.{◌≡◌, ◌++◌, drop}
use Rattle.inf_properties.specs.Properties.{with_joined}
use Rattle.inf_properties.proofs.lists.with_joined.Given as goal

abbrev pub invariant-loop-property : goal.invariant-loop-property
invariant-loop-property l = l.all.items ++ with_joined l.above (drop l.property-index l.own) ≡ with_joined l.above l.own
