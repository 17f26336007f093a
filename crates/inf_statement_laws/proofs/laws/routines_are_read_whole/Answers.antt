use Rattle.inf_statement_laws.proofs.Reading.{routines_are_read_whole}
use Rattle.inf_statement_laws.proofs.laws.routines_are_read_whole.Goals as goal

pub returns : goal.returns
returns c = routines_are_read_whole
