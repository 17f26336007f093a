use Rattle.std.proofs.Common.{◌≡◌, ◌≤◌, ◌++◌, length, drop}
use Rattle.inf_statements.specs.Assembly.{operands_in}
use Rattle.inf_constructs.specs.Roots.{trees_from}
use Rattle.inf_statements.proofs.assembly.operands_in.Given as goal

-- the operands so far, with those of the roots that are left, are all
abbrev pub invariant-loop-root : goal.invariant-loop-root
invariant-loop-root g l =
    (l.operands.items ++ operands_in g.B.Bounds.most (trees_from l.nodes (drop l.root-index l.roots)) ≡ operands_in g.B.Bounds.most
    (trees_from l.nodes l.roots)) × ((length l.operands.items ≡ l.root-index) × (length l.roots ≤ 8))
