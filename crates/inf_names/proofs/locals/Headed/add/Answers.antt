use Rattle.std.proofs.Common.{rules}
use Rattle.inf_names.proofs.locals.Headed.add.Goals as goal

pub returns-in-Some : goal.returns-in-Some
returns-in-Some c = search rules
