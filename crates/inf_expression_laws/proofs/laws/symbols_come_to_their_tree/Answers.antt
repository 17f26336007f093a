-- The law is a lemma.
use Rattle.inf_expression_laws.proofs.TreesRead.{symbols_come_to_their_tree}
use Rattle.inf_expression_laws.proofs.laws.symbols_come_to_their_tree.Goals as goal

pub returns : goal.returns
returns c = symbols_come_to_their_tree
