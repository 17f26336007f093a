use Rattle.std.proofs.Common.{rules}
use Rattle.inf_names.proofs.symbols.Symbols.look.Goals as goal

pub returns-in-Some-Used : goal.returns-in-Some-Used
returns-in-Some-Used g c = search rules
