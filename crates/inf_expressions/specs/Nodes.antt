-- The trees that nodes are, each together with the trees before it.
use Rattle.std.specs.Prelude.{ℕ, ◌+◌, ◌<◌, List, [], ◌∷◌, ◌++◌, length, map, reverse, slice_index_or}
use Rattle.inf_expressions.specs.{Rooted.Rooted, declared.nodes.Node.Node, declared.operators.Operand.Operand, declared.trees.Root.Root}
use Rattle.inf_expressions.specs.Trees.{Tree, Leaf, One, Two}

-- the tree at a place; the number 0 where there is none
abbrev pub tree_at : List Tree → ℕ → Tree
tree_at trees place = slice_index_or trees place (Leaf (Operand.Known 0))

abbrev pub trees_at : List Tree → ℕ × ℕ → Tree × Tree
trees_at trees places = (tree_at trees places.0, tree_at trees places.1)

-- the tree of a node behind these trees
abbrev pub tree_of : List Tree → Node → Tree
tree_of trees (Node.Leaf operand) = Leaf operand
tree_of trees (Node.One op a) = One op (tree_at trees a)
tree_of trees (Node.Two op a b) = Two op (tree_at trees a) (tree_at trees b)

abbrev pub trees_from : List Tree → List Node → List Tree
trees_from trees [] = trees
trees_from trees (n ∷ nodes) = trees_from (trees ++ tree_of trees n ∷ []) nodes

-- tells whether the parts of a node come before a place
abbrev pub IsBelow : ℕ → Node → Type 0
IsBelow place (Node.Leaf operand) = Unit {0}
IsBelow place (Node.One op a) = a < place
IsBelow place (Node.Two op a b) = (a < place) × (b < place)

abbrev pub AreBelow : ℕ → List Node → Type 0
AreBelow place [] = Unit {0}
AreBelow place (n ∷ nodes) = IsBelow place n × AreBelow (place + 1) nodes

-- the tree of a root, with its origin; below, all trees of a list of roots, the latest first
abbrev pub rooted_at : List Tree → Root → Rooted
rooted_at trees root = record { tree = tree_at trees root.place; origin = root.origin }

abbrev pub rooted : List Tree → List Root → List Rooted
rooted trees roots = reverse (map (rooted_at trees) roots)

-- tells whether all roots are places within the trees
abbrev pub AreRoots : List Tree → List Root → Type 0
AreRoots trees [] = Unit {0}
AreRoots trees (root ∷ roots) = (root.place < length trees) × AreRoots trees roots
