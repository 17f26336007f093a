-- The trees that nodes are, place by place.
use Rattle.std.proofs.Common.{◌≡◌, ℕ, suc, ◌+◌, ◌<◌, ◌≤◌, List, [], ◌∷◌, ◌++◌, length, get_or, take, drop, refl, sym, ◌∙◌, ap, subst, arith}
use Rattle.std.proofs.Common.{length-append, drop-cons}
use Rattle.std.proofs.lemmas.List.{get_or_append_left, get_or_push, get_or_past, length-take, take-append-drop}
use Rattle.inf_expressions.specs.{Trees.Leaf, Trees.Tree, declared.nodes.Node.Node, declared.operators.Operand.Operand}
use Rattle.inf_expressions.specs.Nodes.{tree_at, tree_of, trees_from, IsBelow, AreBelow}

-- The trees of two lists of nodes joined are those of the second behind those of the first.
joined_from : (trees : List Tree) (front back : List Node) → trees_from trees (front ++ back) ≡ trees_from (trees_from trees front) back
joined_from trees [] back = refl
joined_from trees (n ∷ front) back = joined_from (trees ++ tree_of trees n ∷ []) front back

pub trees_pushed : (trees : List Tree) (nodes : List Node) (n : Node) →
    trees_from trees (nodes ++ n ∷ []) ≡ trees_from trees nodes ++ tree_of (trees_from trees nodes) n ∷ []
trees_pushed trees nodes n = joined_from trees nodes (n ∷ [])

pub trees_len : (trees : List Tree) (nodes : List Node) → length (trees_from trees nodes) ≡ length trees + length nodes
trees_len trees [] = omega arith
trees_len trees (n ∷ nodes) = omega (arith, trees_len (trees ++ tree_of trees n ∷ []) nodes, length-append trees (tree_of trees n ∷ []))

below_joined : (place : ℕ) (front : List Node) (n : Node) → AreBelow place front → IsBelow (place + length front) n →
    AreBelow place (front ++ n ∷ [])
below_joined place [] n below last = (subst (λ p. IsBelow p n) (omega arith) last, tt)
below_joined place (m ∷ front) n below last =
    (below.0, below_joined (place + 1) front n below.1 (subst (λ p. IsBelow p n) (omega arith) last))

pub below_pushed : (nodes : List Node) (n : Node) → AreBelow 0 nodes → IsBelow (length nodes) n → AreBelow 0 (nodes ++ n ∷ [])
below_pushed nodes n below last = below_joined 0 nodes n below (subst (λ p. IsBelow p n) (omega arith) last)

below_at : (place : ℕ) (front : List Node) (n : Node) (back : List Node) → AreBelow place (front ++ n ∷ back) →
    IsBelow (place + length front) n
below_at place [] n back below = subst (λ p. IsBelow p n) (omega arith) below.0
below_at place (m ∷ front) n back below = subst (λ p. IsBelow p n) (omega arith) (below_at (place + 1) front n back below.1)

-- The nodes that follow leave a tree as it is.
kept_at : (trees : List Tree) (back : List Node) (place : ℕ) → place < length trees →
    tree_at (trees_from trees back) place ≡ tree_at trees place
kept_at trees [] place within = refl
kept_at trees (n ∷ back) place within =
    kept_at (trees ++ tree_of trees n ∷ []) back place (omega (arith, length-append trees (tree_of trees n ∷ [])))
    ∙ get_or_append_left trees (tree_of trees n ∷ []) (Leaf (Operand.Known 0)) place within

kept_of : (trees : List Tree) (back : List Node) (n : Node) → IsBelow (length trees) n → tree_of (trees_from trees back) n ≡ tree_of trees n
kept_of trees back (Node.Leaf operand) below = refl
kept_of trees back (Node.One op a) below = let e = kept_at trees back a below in cc
kept_of trees back (Node.Two op a b) below = let e = kept_at trees back a below.0 in let f = kept_at trees back b below.1 in cc

-- At the place of a node is its tree.
stands : (front : List Node) (n : Node) (back : List Node) → AreBelow 0 (front ++ n ∷ back) →
    tree_at (trees_from [] (front ++ n ∷ back)) (length front) ≡ tree_of (trees_from [] (front ++ n ∷ back)) n
stands front n back below =
    let before : List Tree = trees_from [] front in
    let len : length before ≡ length front = omega (arith, trees_len [] front) in
    let parts : IsBelow (length before) n = subst (λ p. IsBelow p n) (omega arith) (below_at 0 front n back below) in
    ap (λ trees. tree_at trees (length front)) (joined_from [] front (n ∷ back))
    ∙ kept_at (before ++ tree_of before n ∷ []) back (length front) (omega (arith, length-append before (tree_of before n ∷ [])))
    ∙ get_or_push before (tree_of before n) (Leaf (Operand.Known 0)) (length front) len
    ∙ sym (kept_of before (n ∷ back) n parts)
    ∙ ap (λ trees. tree_of trees n) (sym (joined_from [] front (n ∷ back)))

-- A list is the nodes before a place, the node at the place, and those behind it.
cut_at : (nodes : List Node) (k : ℕ) (n : Node) → k < length nodes → n ≡ get_or nodes k n → take k nodes ++ n ∷ drop (suc k) nodes ≡ nodes
cut_at nodes k n within is = ap (λ m. take k nodes ++ m ∷ drop (suc k) nodes) is
    ∙ ap (λ back. take k nodes ++ back) (sym (drop-cons nodes k n within))
    ∙ take-append-drop k nodes

pub node_tree : (nodes : List Node) (k : ℕ) (n : Node) → AreBelow 0 nodes → k < length nodes → n ≡ get_or nodes k n →
    tree_at (trees_from [] nodes) k ≡ tree_of (trees_from [] nodes) n
node_tree nodes k n below within is =
    let cut = cut_at nodes k n within is in
    let len : length (take k nodes) ≡ k = omega (arith, length-take k nodes) in
    subst (λ p. tree_at (trees_from [] nodes) p ≡ tree_of (trees_from [] nodes) n) len
    (subst (λ ns. tree_at (trees_from [] ns) (length (take k nodes)) ≡ tree_of (trees_from [] ns) n) cut
    (stands (take k nodes) n (drop (suc k) nodes) (subst (AreBelow 0) (sym cut) below)))

pub node_below : (nodes : List Node) (k : ℕ) (n : Node) → AreBelow 0 nodes → k < length nodes → n ≡ get_or nodes k n → IsBelow k n
node_below nodes k n below within is = subst (λ p. IsBelow p n) (omega (arith, length-take k nodes))
    (below_at 0 (take k nodes) n (drop (suc k) nodes) (subst (AreBelow 0) (sym (cut_at nodes k n within is)) below))

pub no_tree : (nodes : List Node) (k : ℕ) → length nodes ≤ k → tree_at (trees_from [] nodes) k ≡ Leaf (Operand.Known 0)
no_tree nodes k past = get_or_past (trees_from [] nodes) k (Leaf (Operand.Known 0)) (omega (arith, trees_len [] nodes))

pub ruleset one_more = (trees_len, trees_pushed, below_pushed)

pub ruleset at_place = (trees_len, node_tree, node_below, no_tree)
