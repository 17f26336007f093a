use Rattle.std.proofs.Common.{◌≡◌, length}
use Rattle.inf_templates.specs.Tasks.{part_of}
use Rattle.inf_constructs.specs.Roots.{trees_from}
use Rattle.inf_statements.specs.Statements.{attributes_given}
use Rattle.inf_statements.proofs.statements.lay_attributes.Given as goal

-- the items that are left lead from the code so far to that of all items
abbrev pub invariant-loop-item : goal.invariant-loop-item
invariant-loop-item g l =
    attributes_given g.B.Bounds.most (part_of g.B.Bounds.most l.nodes l.object) l.left (trees_from l.nodes l.attributes) l.out
    ≡ attributes_given g.B.Bounds.most (part_of g.B.Bounds.most l.nodes l.object) l.items (trees_from l.nodes l.roots) l.fn.out

abbrev pub decreases-loop-item : goal.decreases-loop-item
decreases-loop-item g l = length l.left
