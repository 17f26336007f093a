use Rattle.std.proofs.Common.{◌≡◌, [], length}
use Rattle.inf_constructs.specs.{Cases.grouped, Roots.trees_from}
use Rattle.inf_constructs.proofs.cases.lay_values.Given as goal

-- the values that are left lead from the output so far to the output of all
abbrev pub invariant-loop-root : goal.invariant-loop-root
invariant-loop-root g l = grouped g.B.Bounds.most l.group.items (trees_from l.nodes l.left) l.here l.next l.out ≡ grouped g.B.Bounds.most []
    (trees_from l.nodes l.roots) l.here l.next l.fn.out

abbrev pub decreases-loop-root : goal.decreases-loop-root
decreases-loop-root g l = length l.left
