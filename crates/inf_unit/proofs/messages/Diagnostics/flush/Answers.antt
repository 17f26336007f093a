use Rattle.std.proofs.Common.{rules}
use Rattle.inf_unit.proofs.messages.Diagnostics.flush.Goals as goal

pub returns-clause-none : goal.returns-clause-none
returns-clause-none g c = search rules
