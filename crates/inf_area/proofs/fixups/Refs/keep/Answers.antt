use Rattle.std.proofs.Common.{rules}
use Rattle.inf_area.proofs.fixups.Refs.keep.Goals as goal

pub returns : goal.returns
returns c = search rules
