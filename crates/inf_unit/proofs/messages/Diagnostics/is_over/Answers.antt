use Rattle.std.proofs.Common.{rules}
use Rattle.inf_unit.proofs.messages.Diagnostics.is_over.Goals as goal

pub returns : goal.returns
returns c = search rules
