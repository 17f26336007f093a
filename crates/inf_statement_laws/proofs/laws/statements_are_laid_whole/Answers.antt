use Rattle.inf_statement_laws.proofs.Laying.{statements_are_laid_whole}
use Rattle.inf_statement_laws.proofs.laws.statements_are_laid_whole.Goals as goal

pub returns : goal.returns
returns c = statements_are_laid_whole
