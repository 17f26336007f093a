use Rattle.std.proofs.Common.{subst}
use Rattle.inf_expressions.specs.Nodes.{AreRoots}
use Rattle.inf_expressions.proofs.Roots.{roots_grown, roots_popped}
use Rattle.inf_expressions.proofs.trees.Gathered.join.Goals as goal

pub add-requires : goal.add-requires
add-requires c =
    let left = roots_popped _ _ _ (subst (AreRoots c.self.inside.nodes) c.in-Some-Some.ensures.items c.self.invariant) in
    let others = roots_popped _ _ _ (subst (AreRoots c.self.inside.nodes) c.in-Some-Some.ensures'.items left.0) in
    c.joined-node.ensures.below _ others.1 left.1

pub invariant_of-self-in-Some-pop-2 : goal.invariant_of-self-in-Some-pop-2
invariant_of-self-in-Some-pop-2 c =
    let left = roots_popped _ _ _ (subst (AreRoots c.self.inside.nodes) c.in-Some-Some.ensures.items c.self.invariant) in
    let others = roots_popped _ _ _ (subst (AreRoots c.self.inside.nodes) c.in-Some-Some.ensures'.items left.0) in
    rw (c.in_ok-push.ensures.items, c.in_ok-place.ensures.value, c.in_ok-place.ensures.place) (roots_grown _ _ _ _ others.0)
