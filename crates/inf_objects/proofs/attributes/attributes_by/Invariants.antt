use Rattle.std.proofs.Common.{◌≡◌, length}
use Rattle.inf_objects.specs.Attributes.{attributes_by, said_or}
use Rattle.inf_objects.proofs.Merging.{merged_from}
use Rattle.inf_objects.proofs.attributes.attributes_by.Given as goal

abbrev pub invariant-loop-place : goal.invariant-loop-place
invariant-loop-place l = (merged_from (λ a s. said_or s a) l.place l.all l.said ≡ attributes_by l.above l.said) × (length l.all ≡ 48)
