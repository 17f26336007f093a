-- The law is a lemma.
use Rattle.inf_expression_laws.proofs.ExpressionsRead.{expressions_are_read}
use Rattle.inf_expression_laws.proofs.laws.expressions_are_read.Goals as goal

pub returns : goal.returns
returns c = expressions_are_read
