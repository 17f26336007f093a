-- By evaluation.
use Rattle.std.proofs.Common.{refl}
use Rattle.inf_syntax.specs.Slots.{all_slots}
use Rattle.inf_syntax.proofs.atoms.slots.Goals as goal

pub returns : goal.returns
unfolding all_slots
returns c = refl
