use Rattle.std.proofs.Common.{rules}
use Rattle.inf_names.proofs.symbols.Symbols.use_at.Goals as goal

pub returns-in-Used : goal.returns-in-Used
returns-in-Used g c = search rules
