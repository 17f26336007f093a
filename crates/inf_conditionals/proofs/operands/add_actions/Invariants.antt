use Rattle.std.proofs.Common.{◌≡◌, drop}
use Rattle.inf_conditionals.specs.Operands.{actions_added}
use Rattle.inf_conditionals.proofs.operands.add_actions.Given as goal

-- the actions of the leaves that are left, behind those before, are those of all
abbrev pub invariant-loop-leaf : goal.invariant-loop-leaf
invariant-loop-leaf g l =
    actions_added g.B.Bounds.most l.tokens (drop l.leaf-index l.leaves) l.out ≡ actions_added g.B.Bounds.most l.tokens l.leaves l.fn.out
