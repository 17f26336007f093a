use Rattle.std.proofs.Common.{◌≡◌, [], drop, false}
use Rattle.inf_names.specs.Symbols.{no_names}
use Rattle.inf_conditionals.specs.Operands.{operands_from}
use Rattle.inf_conditionals.proofs.operands.operands_of.Given as goal

-- the operands so far, and then those of the leaves that are left, are those of all
abbrev pub invariant-loop-leaf : goal.invariant-loop-leaf
invariant-loop-leaf g l = operands_from l.declared l.out l.tokens (drop l.leaf-index l.leaves) l.ahead l.operands.items
    ≡ operands_from l.declared l.out l.tokens l.leaves (no_names false) []
