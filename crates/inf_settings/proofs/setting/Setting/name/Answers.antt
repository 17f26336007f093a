use Rattle.std.proofs.Common.{rules}
use Rattle.inf_settings.proofs.setting.Setting.name.Goals as goal

pub returns-in-GrammarLines-clause-value : goal.returns-in-GrammarLines-clause-value
returns-in-GrammarLines-clause-value c = search rules

pub returns-in-GrammarLines-clause-own : goal.returns-in-GrammarLines-clause-own
returns-in-GrammarLines-clause-own c = search rules
