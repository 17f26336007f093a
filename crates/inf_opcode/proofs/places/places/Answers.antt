-- The code's table is that of the definition.
use Rattle.std.proofs.Common.{refl}
use Rattle.inf_opcode.specs.Slots.{all_places}
use Rattle.inf_opcode.proofs.places.places.Goals as goal

pub returns : goal.returns
unfolding all_places
returns c = refl
