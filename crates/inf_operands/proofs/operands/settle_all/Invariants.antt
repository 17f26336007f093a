use Rattle.std.proofs.Common.{◌≡◌, [], drop}
use Rattle.inf_names.specs.LocalList.{listed}
use Rattle.inf_operands.specs.Operands.{Settled, settled}
use Rattle.inf_operands.proofs.operands.settle_all.Given as goal

-- the leaves that are left lead from the operands settled so far to those of all leaves
abbrev pub invariant-loop-leaf : goal.invariant-loop-leaf
invariant-loop-leaf g l =
    let now : Settled = record { out = l.out; operands = l.operands.items } in
    let first : Settled = record { out = l.fn.out; operands = [] } in
    settled g.B.Bounds.most l.set (listed l.locals) l.tokens (drop l.leaf-index l.leaves) now ≡ settled g.B.Bounds.most l.set
    (listed l.locals) l.tokens l.leaves first
