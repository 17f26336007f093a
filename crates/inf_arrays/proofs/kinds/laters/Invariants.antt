use Rattle.std.proofs.Common.{◌≡◌, ◌+◌, ◌≤◌, drop}
use Rattle.inf_arrays.specs.Kinds.{laters}
use Rattle.inf_arrays.proofs.kinds.laters.Given as goal

abbrev pub invariant-loop-value : goal.invariant-loop-value
invariant-loop-value l = (l.count + laters (drop l.value-index l.values) ≡ laters l.values) × (l.count ≤ l.value-index)
