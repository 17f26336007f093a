use Rattle.std.proofs.Common.{rules}
use Rattle.inf_unit.proofs.messages.Diagnostics.error.Goals as goal

pub returns : goal.returns
returns c = search rules
