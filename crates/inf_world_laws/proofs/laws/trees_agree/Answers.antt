-- Lemmas are the answers.
use Rattle.inf_world_laws.proofs.{Siblings.sibling_agrees, Tree.child_agrees, Tree.children_agree, Tree.latest_agree}
use Rattle.inf_world_laws.proofs.laws.trees_agree.Goals as goal

pub returns : goal.returns
returns c = record { latest = latest_agree; children = children_agree; child = child_agrees; sibling = sibling_agrees }
