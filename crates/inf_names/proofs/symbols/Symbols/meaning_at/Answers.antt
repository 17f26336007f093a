use Rattle.std.proofs.Common.{rules}
use Rattle.inf_names.proofs.symbols.Symbols.meaning_at.Goals as goal

pub returns-in-Declared : goal.returns-in-Declared
returns-in-Declared g c = search rules
