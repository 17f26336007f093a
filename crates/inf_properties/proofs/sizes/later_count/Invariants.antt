use Rattle.std.proofs.Common.{◌≡◌, ◌+◌, ◌≤◌, drop}
use Rattle.inf_properties.specs.Sizes.{later_count}
use Rattle.inf_properties.proofs.sizes.later_count.Given as goal

abbrev pub invariant-loop-value : goal.invariant-loop-value
invariant-loop-value l = (l.count + later_count (drop l.value-index l.values) ≡ later_count l.values) × (l.count ≤ l.value-index)
