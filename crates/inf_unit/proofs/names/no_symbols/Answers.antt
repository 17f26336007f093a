use Rattle.std.proofs.Common.{rules}
use Rattle.inf_unit.proofs.names.no_symbols.Goals as goal

pub returns : goal.returns
returns g c = search rules
