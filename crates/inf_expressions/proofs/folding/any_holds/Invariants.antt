use Rattle.std.proofs.Common.{◌≡◌, Some, false}
use Rattle.inf_expressions.specs.{Folding.any_holds, Nodes.tree_at}
use Rattle.inf_expressions.proofs.folding.any_holds.Given as goal

abbrev pub invariant-loop-b : goal.invariant-loop-b
invariant-loop-b l = any_holds l.found l.test l.a (tree_at l.nodes l.left) ≡ any_holds (Some false) l.test l.a (tree_at l.nodes l.list)

abbrev pub decreases-loop-b : goal.decreases-loop-b
decreases-loop-b l = l.left
