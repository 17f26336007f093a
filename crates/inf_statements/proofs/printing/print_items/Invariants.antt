use Rattle.std.proofs.Common.{◌≡◌, false, length, map}
use Rattle.inf_expressions.specs.Forests.{trees_in}
use Rattle.inf_statements.specs.Printing.{items_printed}
use Rattle.inf_constructs.specs.Roots.{tree_in, trees_from}
use Rattle.inf_statements.proofs.printing.print_items.Given as goal

-- the items that are left lead from the code so far to that of all items
abbrev pub invariant-loop-item : goal.invariant-loop-item
invariant-loop-item g l =
    items_printed g.B.Bounds.most l.printing.set l.printing.tokens.now l.printing.returns l.ends l.left (trees_from l.nodes l.roots) l.out
    ≡ items_printed g.B.Bounds.most l.printing.set l.printing.tokens.now l.printing.returns false l.items (map tree_in (trees_in l.forest))
    l.fn.out

abbrev pub decreases-loop-item : goal.decreases-loop-item
decreases-loop-item g l = length l.left
