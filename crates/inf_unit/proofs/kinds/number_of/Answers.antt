use Rattle.std.proofs.Common.{rules}
use Rattle.inf_unit.proofs.kinds.number_of.Goals as goal

pub returns-in-Number : goal.returns-in-Number
returns-in-Number c = search rules
