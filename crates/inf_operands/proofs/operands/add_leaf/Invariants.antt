use Rattle.std.proofs.Common.{◌≡◌, drop}
use Rattle.inf_operands.specs.Operands.{leaf_added}
use Rattle.inf_operands.proofs.operands.add_leaf.Given as goal

-- the leaves that are left lead from the story so far to that of all leaves
abbrev pub invariant-loop-leaf : goal.invariant-loop-leaf
invariant-loop-leaf g l = leaf_added g.B.Bounds.most l.set l.tokens (drop l.leaf-index l.leaves) l.out ≡ leaf_added g.B.Bounds.most l.set
    l.tokens l.leaves l.fn.out
