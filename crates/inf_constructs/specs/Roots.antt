-- The trees of a unit.
use Rattle.std.specs.Prelude.{List, map}
use Rattle.inf_expressions.specs.{Nodes.rooted_at, Rooted.Rooted, Trees.Tree, declared.trees.Root.Root}

-- the trees of a unit, by their places among its nodes
abbrev pub tree_in : Rooted → Tree
tree_in r = r.tree

abbrev pub trees_from : List Tree → List Root → List Tree
trees_from nodes roots = map tree_in (map (rooted_at nodes) roots)
