-- The lemma is the answer.
use Rattle.inf_veneer_laws.proofs.Sending.{messages_are_sent}
use Rattle.inf_veneer_laws.proofs.laws.messages_are_sent.Goals as goal

pub returns : goal.returns
returns c = messages_are_sent
