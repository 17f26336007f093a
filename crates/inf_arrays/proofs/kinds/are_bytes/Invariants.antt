use Rattle.std.proofs.Common.{◌≡◌, drop}
use Rattle.inf_arrays.specs.Kinds.{are_bytes}
use Rattle.inf_arrays.proofs.kinds.are_bytes.Given as goal

abbrev pub invariant-loop-value : goal.invariant-loop-value
invariant-loop-value l = are_bytes (drop l.value-index l.values) ≡ are_bytes l.values
