use Rattle.std.proofs.Common.{rules}
use Rattle.inf_settings.proofs.settings.Settings.set.Goals as goal

pub returns-in_default-clause-answer : goal.returns-in_default-clause-answer
returns-in_default-clause-answer c = search rules
