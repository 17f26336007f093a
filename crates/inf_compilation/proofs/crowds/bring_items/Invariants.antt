use Rattle.std.proofs.Common.{◌≡◌, drop}
use Rattle.inf_unit.specs.Crowds.{crowd}
use Rattle.inf_compilation.specs.Crowds.{items_brought}
use Rattle.inf_compilation.proofs.crowds.bring_items.Given as goal

-- the items that are left, brought behind those so far, are all items
abbrev pub invariant-loop-item : goal.invariant-loop-item
invariant-loop-item g l = items_brought l.settings l.names (drop l.item-index l.items) (crowd l.crowd)
    ≡ items_brought l.settings l.names l.items (crowd l.fn.crowd)
