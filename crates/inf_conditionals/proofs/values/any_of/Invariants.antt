use Rattle.std.proofs.Common.{◌≡◌, Some, drop, false}
use Rattle.inf_conditionals.specs.Values.{any_of}
use Rattle.inf_conditionals.proofs.values.any_of.Given as goal

-- what was found of the values so far, and then of those that are left, is what is found of all
abbrev pub invariant-loop-value : goal.invariant-loop-value
invariant-loop-value l = any_of l.found l.test l.a (drop l.value-index l.values) ≡ any_of (Some false) l.test l.a l.values
