use Rattle.inf_laws.proofs.NameEvents.{undeclared_are_told}
use Rattle.inf_laws.proofs.laws.undeclared_names_are_told_once.Goals as goal

pub returns : goal.returns
returns c = undeclared_are_told
