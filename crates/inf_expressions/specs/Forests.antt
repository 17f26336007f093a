-- The trees of a unit, in the order of their texts.
use Rattle.std.specs.Prelude.{List, map}
use Rattle.inf_expressions.specs.{Nodes.rooted_at, Rooted.Rooted, declared.forest.Forest.Forest}

abbrev pub trees_in : Forest → List Rooted
trees_in forest = map (rooted_at forest.nodes) forest.roots.items
