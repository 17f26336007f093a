-- The law is a lemma.
use Rattle.inf_expression_laws.proofs.Texts.{expressions_are_texts}
use Rattle.inf_expression_laws.proofs.laws.expressions_are_texts.Goals as goal

pub returns : goal.returns
returns c = expressions_are_texts
