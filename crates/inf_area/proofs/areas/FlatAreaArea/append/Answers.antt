use Rattle.std.proofs.Common.{rules}
use Rattle.inf_area.proofs.areas.FlatAreaArea.append.Goals as goal

pub returns-clause-ok : goal.returns-clause-ok
returns-clause-ok c = search rules
