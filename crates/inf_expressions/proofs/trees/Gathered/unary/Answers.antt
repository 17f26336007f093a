use Rattle.std.proofs.Common.{subst}
use Rattle.inf_expressions.specs.Nodes.{AreRoots}
use Rattle.inf_expressions.proofs.Roots.{roots_grown, roots_popped}
use Rattle.inf_expressions.proofs.trees.Gathered.unary.Goals as goal

pub add-requires : goal.add-requires
add-requires c =
    let left = roots_popped _ _ _ (subst (AreRoots c.self.inside.nodes) c.in-Some.ensures.items c.self.invariant) in
    c.joined_single-node.ensures.below _ left.1

pub invariant_of-self-in-Some : goal.invariant_of-self-in-Some
invariant_of-self-in-Some c =
    let left = roots_popped _ _ _ (subst (AreRoots c.self.inside.nodes) c.in-Some.ensures.items c.self.invariant) in
    rw (c.in_ok-push.ensures.items, c.in_ok-place.ensures.value, c.in_ok-place.ensures.place) (roots_grown _ _ _ _ left.0)
