-- The statements that are left to end, behind those that have ended, are all.
use Rattle.std.proofs.Common.{◌≡◌}
use Rattle.inf_constructs.specs.Constructs.{all_ended}
use Rattle.inf_constructs.proofs.constructs.Constructs.end_all.Given as goal

abbrev pub decreases-loop-left : goal.decreases-loop-left
decreases-loop-left g l = l.left

abbrev pub invariant-loop-left : goal.invariant-loop-left
invariant-loop-left g l = all_ended g.B.Bounds.most l.left l.self l.out ≡ all_ended g.B.Bounds.most l.count l.fn.self l.fn.out
