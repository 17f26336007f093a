-- The whole stack can be empty exactly where its rest can.
use Rattle.std.proofs.Common.{◌≡◌, reverse, length}
use Rattle.inf_machine.specs.Machine.{can_end}
use Rattle.inf_machine.proofs.reading.can_end.Given as goal

abbrev pub invariant-loop-symbol : goal.invariant-loop-symbol
invariant-loop-symbol g l = can_end g.T.Table.known (reverse l.stack) ≡ can_end g.T.Table.known (reverse l.left)

abbrev pub decreases-loop-symbol : goal.decreases-loop-symbol
decreases-loop-symbol g l = length l.left
