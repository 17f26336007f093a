use Rattle.std.proofs.Common.{rules}
use Rattle.inf_unit.proofs.names.main_of.Goals as goal

pub returns-in-Declared : goal.returns-in-Declared
returns-in-Declared g c = search rules

pub returns-in-System : goal.returns-in-System
returns-in-System g c = search rules
