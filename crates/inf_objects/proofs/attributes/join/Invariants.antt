use Rattle.std.proofs.Common.{◌≡◌, length, ◌||◌}
use Rattle.inf_objects.specs.Attributes.{together}
use Rattle.inf_objects.proofs.Merging.{merged_from}
use Rattle.inf_objects.proofs.attributes.join.Given as goal

abbrev pub invariant-loop-place : goal.invariant-loop-place
invariant-loop-place l = (merged_from (λ a b. a || b) l.place l.above l.class ≡ together l.initial.above l.class) × (length l.above ≡ 48)
