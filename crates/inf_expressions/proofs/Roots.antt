-- The latest trees and their roots.
use Rattle.std.proofs.Common.{◌≡◌, ℕ, ◌<◌, List, [], ◌∷◌, ◌++◌, length, map, refl, sym, ap, arith, length-append}
use Rattle.std.proofs.lemmas.List.{get_or_append_left, get_or_push, map-append, reverse-append, reverse-reverse}
use Rattle.std.proofs.lemmas.Option.{slice_get-map}
use Rattle.std.specs.Prelude.{reverse, option_map, slice_get}
use Rattle.inf_expressions.specs.{Nodes.AreRoots, Nodes.rooted, Nodes.rooted_at, Nodes.tree_at, Trees.Leaf, Trees.Tree}
use Rattle.inf_expressions.specs.{declared.operators.Operand.Operand, declared.origins.Origin.Origin, declared.trees.Root.Root}

-- A root that is pushed is the latest tree, and one that is popped was.
pub rooted_pushed : (trees : List Tree) (roots : List Root) (root : Root) →
    rooted trees (roots ++ root ∷ []) ≡ rooted_at trees root ∷ rooted trees roots
rooted_pushed trees roots root = simp (map-append, reverse-append)

pub roots_pushed : (trees : List Tree) (roots : List Root) (root : Root) → AreRoots trees roots → root.place < length trees →
    AreRoots trees (roots ++ root ∷ [])
roots_pushed trees [] root all within = (within, tt)
roots_pushed trees (r ∷ roots) root all within = (all.0, roots_pushed trees roots root all.1 within)

pub roots_popped : (trees : List Tree) (roots : List Root) (root : Root) → AreRoots trees (roots ++ root ∷ []) →
    AreRoots trees roots × (root.place < length trees)
roots_popped trees [] root all = (tt, all.0)
roots_popped trees (r ∷ roots) root all = let others = roots_popped trees roots root all.1 in ((all.0, others.0), others.1)

-- One more tree leaves roots, and the trees at them, as they are.
pub roots_after : (trees : List Tree) (t : Tree) (roots : List Root) → AreRoots trees roots → AreRoots (trees ++ t ∷ []) roots
roots_after trees t [] all = tt
roots_after trees t (root ∷ roots) all = (omega (arith, all.0, length-append trees (t ∷ [])), roots_after trees t roots all.1)

kept_root : (trees : List Tree) (t : Tree) (root : Root) → root.place < length trees →
    rooted_at (trees ++ t ∷ []) root ≡ rooted_at trees root
kept_root trees t root within =
    ap (λ x. record { tree = x; origin = root.origin }) (get_or_append_left trees (t ∷ []) (Leaf (Operand.Known 0)) root.place within)

kept_roots : (trees : List Tree) (t : Tree) (roots : List Root) → AreRoots trees roots →
    map (rooted_at (trees ++ t ∷ [])) roots ≡ map (rooted_at trees) roots
kept_roots trees t [] all = refl
kept_roots trees t (root ∷ roots) all =
    let here = kept_root trees t root all.0 in
    let others = kept_roots trees t roots all.1 in
    cc

pub rooted_after : (trees : List Tree) (t : Tree) (roots : List Root) → AreRoots trees roots →
    rooted (trees ++ t ∷ []) roots ≡ rooted trees roots
rooted_after trees t roots all = ap reverse (kept_roots trees t roots all)

-- A new tree with a root at its place is the latest tree.
pub grown : (trees : List Tree) (t : Tree) (roots : List Root) (origin : Origin) → AreRoots trees roots →
    rooted (trees ++ t ∷ []) (roots ++ record { place = length trees; origin = origin } ∷ []) ≡ record { tree = t; origin = origin } ∷
    rooted trees roots
grown trees t roots origin all =
    let latest : tree_at (trees ++ t ∷ []) (length trees) ≡ t = get_or_push trees t (Leaf (Operand.Known 0)) (length trees) refl in
    let others = rooted_after trees t roots all in
    let pushed = rooted_pushed (trees ++ t ∷ []) roots (record { place = length trees; origin = origin }) in
    cc

pub roots_grown : (trees : List Tree) (t : Tree) (roots : List Root) (origin : Origin) → AreRoots trees roots →
    AreRoots (trees ++ t ∷ []) (roots ++ record { place = length trees; origin = origin } ∷ [])
roots_grown trees t roots origin all =
    roots_pushed (trees ++ t ∷ []) roots (record { place = length trees; origin = origin }) (roots_after trees t roots all)
    (omega (arith, length-append trees (t ∷ [])))

pub ruleset roots_step = (grown, roots_grown, roots_after, rooted_after, rooted_pushed, roots_popped, roots_pushed)

-- The roots in their own order are the trees in the order of their texts.
pub reversed_roots : (trees : List Tree) (roots : List Root) → map (rooted_at trees) roots ≡ reverse (rooted trees roots)
reversed_roots trees roots = sym (reverse-reverse (map (rooted_at trees) roots))

pub root_at : (trees : List Tree) (roots : List Root) (number : ℕ) →
    option_map (rooted_at trees) (slice_get roots number) ≡ slice_get (map (rooted_at trees) roots) number
root_at trees roots number = sym (slice_get-map (rooted_at trees) roots number)
