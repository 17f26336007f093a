use Rattle.inf_laws.proofs.Findings.{headers_tell_the_first}
use Rattle.inf_laws.proofs.laws.first_errors_are_told.Goals as goal

pub returns : goal.returns
returns c = headers_tell_the_first
