use Rattle.std.proofs.Common.{◌≡◌, length}
use Rattle.inf_parts.proofs.parts.are_same.Given as goal

abbrev pub invariant-loop-a : goal.invariant-loop-a
invariant-loop-a l = l.left ≡ l.right → l.operands ≡ l.others

abbrev pub decreases-loop-a : goal.decreases-loop-a
decreases-loop-a l = length l.left
