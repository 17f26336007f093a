use Rattle.std.proofs.Common.{◌≡◌, drop}
use Rattle.inf_names.specs.LocalList.{listed}
use Rattle.inf_operands.specs.Operands.{leaves_named}
use Rattle.inf_operands.proofs.operands.name_locals.Given as goal

-- the leaves that are left name the further locals that all leaves name
abbrev pub invariant-loop-leaf : goal.invariant-loop-leaf
invariant-loop-leaf l =
    leaves_named l.tokens (drop l.leaf-index l.leaves) (listed l.locals) ≡ leaves_named l.tokens l.leaves (listed l.fn.locals)
