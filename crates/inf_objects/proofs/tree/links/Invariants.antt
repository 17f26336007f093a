use Rattle.std.proofs.Common.{◌≡◌, ◌≤◌, length, replicate}
use Rattle.inf_objects.specs.Tree.{AreWithin, no_link}
use Rattle.inf_objects.proofs.Hanging.{made}
use Rattle.inf_objects.proofs.tree.links.Given as goal

abbrev pub decreases-loop-parent : goal.decreases-loop-parent
decreases-loop-parent l = length l.left

abbrev pub invariant-loop-parent : goal.invariant-loop-parent
invariant-loop-parent l = record {
  made : made 0 l.left l.links.items ≡ made 0 l.parents (replicate (length l.parents) no_link);
  count : length l.links.items ≡ length l.parents;
  fewer : length l.left ≤ length l.parents;
  within : AreWithin (length l.parents) l.left;
}
