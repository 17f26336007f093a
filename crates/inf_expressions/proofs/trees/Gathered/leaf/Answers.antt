use Rattle.inf_expressions.proofs.Roots.{roots_grown}
use Rattle.inf_expressions.proofs.trees.Gathered.leaf.Goals as goal

pub invariant_of-self-2 : goal.invariant_of-self-2
invariant_of-self-2 c =
    rw (c.in_ok-push.ensures.items, c.in_ok-place.ensures.value, c.in_ok-place.ensures.place) (roots_grown _ _ _ _ c.self.invariant)
