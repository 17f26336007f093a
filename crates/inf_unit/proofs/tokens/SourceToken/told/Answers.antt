use Rattle.std.proofs.Common.{rules}
use Rattle.inf_unit.proofs.tokens.SourceToken.told.Goals as goal

pub returns-in-Char : goal.returns-in-Char
returns-in-Char c = search rules
