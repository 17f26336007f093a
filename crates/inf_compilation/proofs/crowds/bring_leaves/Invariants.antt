use Rattle.std.proofs.Common.{◌≡◌, drop}
use Rattle.inf_names.specs.LocalList.{listed}
use Rattle.inf_unit.specs.Crowds.{crowd}
use Rattle.inf_compilation.specs.Crowds.{leaves_brought}
use Rattle.inf_compilation.proofs.crowds.bring_leaves.Given as goal

-- the leaves that are left, brought behind those so far, are all leaves
abbrev pub invariant-loop-leaf : goal.invariant-loop-leaf
invariant-loop-leaf g l = leaves_brought l.settings (listed l.locals) l.out l.tokens (drop l.leaf-index l.leaves) (crowd l.crowd)
    ≡ leaves_brought l.settings (listed l.locals) l.out l.tokens l.leaves (crowd l.fn.crowd)
