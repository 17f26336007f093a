use Rattle.std.proofs.Common.{◌≡◌, length, reverse}
use Rattle.inf_constructs.specs.Constructs.{left_to}
use Rattle.inf_constructs.proofs.constructs.Constructs.left_to.Given as goal

-- the label of the statements that are left is that of all
abbrev pub invariant-loop-last : goal.invariant-loop-last
invariant-loop-last l = left_to l.on (reverse l.left) ≡ left_to l.on l.self

abbrev pub decreases-loop-last : goal.decreases-loop-last
decreases-loop-last l = length l.left
