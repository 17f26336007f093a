use Rattle.inf_call_laws.proofs.Called.{expressions_are_laid_alone}
use Rattle.inf_call_laws.proofs.laws.expressions_are_laid_alone.Goals as goal

pub returns : goal.returns
returns c = expressions_are_laid_alone
