use Rattle.std.proofs.Common.{rules}
use Rattle.inf_settings.proofs.settings.Settings.of.Goals as goal

pub returns-in-Code-clause-value : goal.returns-in-Code-clause-value
returns-in-Code-clause-value c = search rules
