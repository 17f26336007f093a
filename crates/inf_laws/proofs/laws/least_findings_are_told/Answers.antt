use Rattle.inf_laws.proofs.UnitFaults.{constants_tell_the_least, parts_tell_the_least}
use Rattle.inf_laws.proofs.laws.least_findings_are_told.Goals as goal

pub returns : goal.returns
returns c = record { parts = parts_tell_the_least; constants = constants_tell_the_least }
