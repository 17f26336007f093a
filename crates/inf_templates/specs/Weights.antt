-- A bound of the work that is left: each task weighs more than the tasks that it makes.
use Rattle.std.specs.Prelude.{ℕ, ◌+◌, ◌<◌, List, [], ◌∷◌}
use Rattle.inf_expressions.specs.{Nodes.tree_at, Trees.Leaf, Trees.One, Trees.Tree, Trees.Two}
use Rattle.inf_templates.specs.{declared.reading.Goal.Goal, declared.tasks.Few.Few, declared.tasks.Task.Task}

-- the weight of the operators of a tree
abbrev pub tree_load : Tree → ℕ
tree_load (Leaf operand) = 0
tree_load (One op a) = 16 + tree_load a
tree_load (Two op a b) = 16 + tree_load a + tree_load b

abbrev pub load_at : List Tree → ℕ → ℕ
load_at trees place = tree_load (tree_at trees place)

abbrev pub few_load : List Tree → Few → ℕ
few_load trees (Few.One a) = load_at trees a
few_load trees (Few.Two a b) = load_at trees a + load_at trees b
few_load trees (Few.Three a b c) = load_at trees a + load_at trees b + load_at trees c

abbrev pub weight : List Tree → Task → ℕ
weight trees (Task.Value place d) = 2 + load_at trees place
weight trees (Task.Alone place) = 2 + load_at trees place
weight trees (Task.Branch place sense label) = 3 + load_at trees place
weight trees (Task.Triples x list sense label there) = 6 + load_at trees list
weight trees (Task.Singles t x list sense label there) = 6 + load_at trees list
weight trees (Task.Truth d fails last) = 1
weight trees (Task.Mark label) = 1
weight trees (Task.Load v d) = 1
weight trees (Task.JumpZero operand sense label) = 1
weight trees (Task.Instruct w) = 1

abbrev pub weights : List Tree → List Task → ℕ
weights trees [] = 0
weights trees (t ∷ tasks) = weight trees t + weights trees tasks

-- Tells whether the tasks `new` weigh less than `most` and the tasks `old`.
abbrev pub WeighsUnder : List Tree → ℕ → List Task → List Task → Type 0
WeighsUnder trees most old new = weights trees new < most + weights trees old

-- the weight of the parts of a goal
abbrev pub goal_load : List Tree → Goal → ℕ
goal_load trees Goal.Nowhere = 0
goal_load trees (Goal.Variable v) = 0
goal_load trees (Goal.Memory m a b) = load_at trees a + load_at trees b
