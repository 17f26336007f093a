use Rattle.std.proofs.Common.{rules}
use Rattle.inf_area.proofs.areas.FlatArea.new.Goals as goal

pub returns : goal.returns
returns c = search rules
