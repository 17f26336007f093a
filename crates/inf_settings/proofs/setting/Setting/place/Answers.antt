use Rattle.std.proofs.Common.{rules}
use Rattle.inf_settings.proofs.setting.Setting.place.Goals as goal

pub returns-in-LowStrings-clause-value : goal.returns-in-LowStrings-clause-value
returns-in-LowStrings-clause-value c = search rules
