use Rattle.std.proofs.Common.{rules}
use Rattle.inf_area.proofs.fixups.Refs.as_slice.Goals as goal

pub returns : goal.returns
returns c = search rules
