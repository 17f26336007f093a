use Rattle.std.proofs.Common.{◌≡◌, drop, false}
use Rattle.inf_names.specs.{LocalList.listed, Symbols.no_names}
use Rattle.inf_operands.specs.Operands.{looked_from}
use Rattle.inf_operands.proofs.looking.look_ahead.Given as goal

-- the operands so far, and then those of the leaves that are left, are those before all and then theirs
abbrev pub invariant-loop-leaf : goal.invariant-loop-leaf
invariant-loop-leaf g l = looked_from (listed l.locals) l.out l.tokens (drop l.leaf-index l.leaves) l.ahead l.operands.items
    ≡ looked_from (listed l.locals) l.out l.tokens l.leaves (no_names false) l.fn.operands.items
