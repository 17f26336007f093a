use Rattle.std.proofs.Common.{◌≡◌, ◌++◌, drop}
use Rattle.inf_properties.specs.Properties.{lacked}
use Rattle.inf_properties.proofs.lists.add_lacked.Given as goal

abbrev pub invariant-loop-property : goal.invariant-loop-property
invariant-loop-property l = l.all.items ++ lacked l.own (drop l.property-index l.above) ≡ l.initial.all.items ++ lacked l.own l.above
