use Rattle.std.proofs.Common.{rules}
use Rattle.inf_names.proofs.system_names.SystemName.meaning.Goals as goal

pub returns-in-Sender : goal.returns-in-Sender
returns-in-Sender c = search rules
