use Rattle.std.proofs.Common.{◌≡◌, drop}
use Rattle.inf_names.specs.LocalList.{listed}
use Rattle.inf_operands.specs.Operands.{stores_named}
use Rattle.inf_operands.proofs.operands.name_stores.Given as goal

-- the items that are left name the further locals that all items name
abbrev pub invariant-loop-item : goal.invariant-loop-item
invariant-loop-item l =
    stores_named l.tokens (drop l.item-index l.items) (listed l.locals) ≡ stores_named l.tokens l.items (listed l.fn.locals)
