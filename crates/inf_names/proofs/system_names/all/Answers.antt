-- The code's list is that of the definition.
use Rattle.std.proofs.Common.{refl}
use Rattle.inf_names.specs.SystemNames.{system_names}
use Rattle.inf_names.proofs.system_names.all.Goals as goal

pub returns : goal.returns
unfolding system_names
returns c = refl
