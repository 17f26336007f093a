use Rattle.std.proofs.Common.{rules}
use Rattle.inf_unit.proofs.messages.Diagnostics.close.Goals as goal

pub returns : goal.returns
returns c = search rules
