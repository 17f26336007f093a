use Rattle.std.proofs.Common.{◌≡◌, drop, map}
use Rattle.inf_expressions.specs.{Forests.trees_in, Nodes.rooted_at, Units.roots_finding}
use Rattle.inf_expressions.proofs.units.found_of.Given as goal

abbrev pub invariant-loop-root : goal.invariant-loop-root
invariant-loop-root l =
    roots_finding l.wanted l.unit (map (rooted_at l.forest.nodes) (drop l.root-index l.forest.roots.items)) l.found ≡ roots_finding l.wanted
    l.unit (trees_in l.forest) l.fn.finding
