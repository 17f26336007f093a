use Rattle.std.proofs.Common.{◌≡◌}
use Rattle.inf_gathering.specs.Gatherings.{numbers}
use Rattle.inf_gathering.proofs.gathering.Gathering.keep_numbers.Given as goal

-- as many numbers are gathered as were added
abbrev pub invariant-loop-order : goal.invariant-loop-order
invariant-loop-order l = l.self ≡ numbers l.order
