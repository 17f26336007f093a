use Rattle.std.proofs.Common.{rules}
use Rattle.inf_names.proofs.system_names.SystemName.name.Goals as goal

pub returns-in-TemporaryGlobal : goal.returns-in-TemporaryGlobal
returns-in-TemporaryGlobal c = search rules
