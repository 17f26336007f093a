use Rattle.std.proofs.Common.{rules}
use Rattle.inf_names.proofs.locals.Locals.new.Goals as goal

pub returns : goal.returns
returns c = search rules
