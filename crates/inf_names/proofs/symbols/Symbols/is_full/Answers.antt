use Rattle.std.proofs.Common.{rules}
use Rattle.inf_names.proofs.symbols.Symbols.is_full.Goals as goal

pub returns : goal.returns
returns g c = search rules
