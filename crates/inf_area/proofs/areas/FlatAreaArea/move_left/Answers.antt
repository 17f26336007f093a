use Rattle.std.proofs.Common.{rules}
use Rattle.inf_area.proofs.areas.FlatAreaArea.move_left.Goals as goal

pub returns : goal.returns
returns c = search rules
