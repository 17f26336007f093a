-- The latest trees of a unit, each with the tokens with which its text begins.
use Rattle.std.specs.Prelude.{ℕ, List, [], ◌∷◌, Option, Some, None, refl}
use Rattle.std.specs.Coded.{Coded, code_by, coded×}
use Rattle.inf_expressions.specs.{Folding.joined, Folding.joined_single, Origins.bracketed, Origins.followed, Origins.nowhere}
use Rattle.inf_expressions.specs.{Origins.prefixed, TreeCode.tree_code, Trees.Leaf, Trees.One, Trees.Tree, Trees.Two}
use Rattle.inf_expressions.specs.declared.{kinds.Kind.Kind, kinds.Seen.Seen, operators.Binary.Binary, operators.Operand.Operand}
use Rattle.inf_expressions.specs.declared.{operators.Operation.Operation, operators.PropertyPart.PropertyPart, operators.Unary.Unary}
use Rattle.inf_expressions.specs.declared.{origins.Origin.Origin}

pub record Rooted : Type 0 where
  pub tree : Tree
  pub origin : Origin

abbrev pub kind_of : Tree → Kind
kind_of (Leaf (Operand.Known n)) = Kind.Number n
kind_of (Leaf (Operand.Variable v)) = Kind.Variable
kind_of (Leaf (Operand.Later target)) = Kind.Constant
kind_of (Leaf (Operand.Function f)) = Kind.Function f
kind_of (Leaf Operand.Unknown) = Kind.Number 0
kind_of (One op a) = Kind.Code
kind_of (Two (Binary.Operation Operation.Byte) a b) = Kind.Entry
kind_of (Two (Binary.Operation Operation.Word) a b) = Kind.Entry
kind_of (Two (Binary.Property PropertyPart.Value) a b) = Kind.Property
kind_of (Two Binary.To a b) = Kind.Range
kind_of (Two op a b) = Kind.Code

-- the kind and the origin of a tree
abbrev pub seen : Rooted → Seen
seen r = record { kind = kind_of r.tree; origin = r.origin }

abbrev pub nobody : Seen
nobody = record { kind = Kind.Code; origin = nowhere }

-- The latest trees, the latest first, once a leaf, brackets or an operator are read.
abbrev pub with_leaf : Operand → Origin → List Rooted → List Rooted
with_leaf operand origin trees = record { tree = Leaf operand; origin = origin } ∷ trees

abbrev pub bracketed_latest : ℕ → List Rooted → List Rooted
bracketed_latest order [] = []
bracketed_latest order (a ∷ trees) = record { tree = a.tree; origin = bracketed order a.origin } ∷ trees

-- the origin of an operator and its part, where the operator is in front, with its order, or behind
abbrev pub begun : Option ℕ → Origin → Origin
begun (Some order) origin = prefixed order origin
begun None origin = followed origin

abbrev pub with_unary : Unary → Option ℕ → List Rooted → List Rooted
with_unary op front [] = []
with_unary op front (a ∷ trees) = record { tree = joined_single op a.tree; origin = begun front a.origin } ∷ trees

abbrev pub with_two : Binary → List Rooted → List Rooted
with_two op (b ∷ a ∷ trees) = record { tree = joined op a.tree b.tree; origin = followed a.origin } ∷ trees
with_two op _ = []

abbrev pub seen_latest : List Rooted → Seen
seen_latest [] = nobody
seen_latest (a ∷ trees) = seen a

abbrev pub seen_two : List Rooted → Seen × Seen
seen_two (b ∷ a ∷ trees) = (seen a, seen b)
seen_two _ = (nobody, nobody)

-- the way in which a tree with its origin is stored
abbrev pub rooted_code : Coded Operand → Coded Unary → Coded Binary → Coded Origin → Coded Rooted
rooted_code operand unary binary origin =
    code_by (Tree × Origin) (coded× (tree_code operand unary binary) origin) (λ r. (r.tree, r.origin))
    (λ p. record { tree = p.0; origin = p.1 }) (λ _. refl)
