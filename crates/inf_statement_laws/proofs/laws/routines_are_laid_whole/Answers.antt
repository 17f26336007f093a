use Rattle.inf_statement_laws.proofs.Laying.{routines_are_laid_whole}
use Rattle.inf_statement_laws.proofs.laws.routines_are_laid_whole.Goals as goal

pub returns : goal.returns
returns c = routines_are_laid_whole
