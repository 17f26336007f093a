use Rattle.std.proofs.Common.{rules}
use Rattle.inf_names.proofs.symbols.Symbols.declared_before.Goals as goal

pub returns-in-Some-Declared : goal.returns-in-Some-Declared
returns-in-Some-Declared g c = search rules
