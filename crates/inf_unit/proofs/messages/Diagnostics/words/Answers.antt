use Rattle.std.proofs.Common.{rules}
use Rattle.inf_unit.proofs.messages.Diagnostics.words.Goals as goal

pub returns-in-None : goal.returns-in-None
returns-in-None c = search rules
