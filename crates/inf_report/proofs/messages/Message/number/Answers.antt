use Rattle.std.proofs.Common.{rules}
use Rattle.inf_report.proofs.messages.Message.number.Goals as goal

pub returns-in-Syntax : goal.returns-in-Syntax
returns-in-Syntax c = search rules

pub returns-in-Syntax-2 : goal.returns-in-Syntax-2
returns-in-Syntax-2 c = search rules

pub returns-in-Syntax-3 : goal.returns-in-Syntax-3
returns-in-Syntax-3 c = search rules
