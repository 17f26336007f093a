-- The code's table is that of the definition.
use Rattle.std.proofs.Common.{refl}
use Rattle.inf_scanner.specs.Runs.{name_bytes}
use Rattle.inf_scanner.proofs.scanner.name_bytes.Goals as goal

pub returns : goal.returns
unfolding name_bytes
returns c = refl
