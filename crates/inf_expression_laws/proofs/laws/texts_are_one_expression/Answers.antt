-- The law is a lemma.
use Rattle.inf_expression_laws.proofs.Texts.{texts_are_one_expression}
use Rattle.inf_expression_laws.proofs.laws.texts_are_one_expression.Goals as goal

pub returns : goal.returns
returns c = texts_are_one_expression
