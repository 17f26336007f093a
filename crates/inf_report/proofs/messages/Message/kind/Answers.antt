use Rattle.std.proofs.Common.{rules}
use Rattle.inf_report.proofs.messages.Message.kind.Goals as goal

pub returns-in-Exceeded : goal.returns-in-Exceeded
returns-in-Exceeded c = search rules

pub returns-in-Exceeded-2 : goal.returns-in-Exceeded-2
returns-in-Exceeded-2 c = search rules

pub returns-in-Exceeded-3 : goal.returns-in-Exceeded-3
returns-in-Exceeded-3 c = search rules

pub returns-in-Exceeded-4 : goal.returns-in-Exceeded-4
returns-in-Exceeded-4 c = search rules

pub returns-in-Exceeded-5 : goal.returns-in-Exceeded-5
returns-in-Exceeded-5 c = search rules

pub returns-in-Exceeded-6 : goal.returns-in-Exceeded-6
returns-in-Exceeded-6 c = search rules

pub returns-in-Exceeded-7 : goal.returns-in-Exceeded-7
returns-in-Exceeded-7 c = search rules

pub returns-in-Exceeded-8 : goal.returns-in-Exceeded-8
returns-in-Exceeded-8 c = search rules

pub returns-in-Exceeded-9 : goal.returns-in-Exceeded-9
returns-in-Exceeded-9 c = search rules
