-- The way in which a tree is stored: as its leaves and operators, each operator in front of its parts.
use Rattle.std.specs.Prelude.{◌≡◌, List, [], ◌∷◌, ◌++◌, ◌⊎◌, refl}
use Rattle.std.specs.Coded.{Coded, code_by, coded⊎, coded_list}
use Rattle.std.proofs.Common.{◌∙◌, ap, sym, inl, inr, append_assoc, append-nil}
use Rattle.inf_expressions.specs.{declared.operators.Binary.Binary, declared.operators.Operand.Operand, declared.operators.Unary.Unary}
use Rattle.inf_expressions.specs.Trees.{Tree, Leaf, One, Two}

-- a piece of a tree: a leaf, an operator of one part, or one of two
abbrev pub Piece : Type 0
Piece = Operand ⊎ (Unary ⊎ Binary)

abbrev pub pieces : Tree → List Piece
pieces (Leaf operand) = inl operand ∷ []
pieces (One op a) = inr (inl op) ∷ pieces a
pieces (Two op a b) = inr (inr op) ∷ (pieces a ++ pieces b)

-- The trees that pieces are, in order.
abbrev pub over_one : Unary → List Tree → List Tree
over_one op [] = []
over_one op (a ∷ trees) = One op a ∷ trees

abbrev pub over_two : Binary → List Tree → List Tree
over_two op (a ∷ b ∷ trees) = Two op a b ∷ trees
over_two op _ = []

abbrev pub reread : List Piece → List Tree
reread [] = []
reread ((inl operand) ∷ rest) = Leaf operand ∷ reread rest
reread ((inr (inl op)) ∷ rest) = over_one op (reread rest)
reread ((inr (inr op)) ∷ rest) = over_two op (reread rest)

pub reread-pieces : (t : Tree) (rest : List Piece) → reread (pieces t ++ rest) ≡ t ∷ reread rest
reread-pieces (Leaf operand) rest = refl
reread-pieces (One op a) rest = ap (over_one op) (reread-pieces a rest)
reread-pieces (Two op a b) rest =
    ap (over_two op)
    (ap reread (append_assoc (pieces a) (pieces b) rest)
    ∙ reread-pieces a (pieces b ++ rest)
    ∙ ap (λ trees. a ∷ trees) (reread-pieces b rest))

abbrev pub first_tree : List Tree → Tree
first_tree [] = Leaf (Operand.Known 0)
first_tree (t ∷ trees) = t

pub stored : (t : Tree) → first_tree (reread (pieces t)) ≡ t
stored t = ap first_tree (ap reread (sym (append-nil (pieces t))) ∙ reread-pieces t [])

abbrev pub tree_code : Coded Operand → Coded Unary → Coded Binary → Coded Tree
tree_code operand unary binary =
    code_by (List Piece) (coded_list (coded⊎ operand (coded⊎ unary binary))) pieces (λ p. first_tree (reread p)) stored
