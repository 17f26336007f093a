use Rattle.inf_message_laws.proofs.Walked.{messages_grow}
use Rattle.inf_message_laws.proofs.laws.messages_grow.Goals as goal

pub returns : goal.returns
returns c = messages_grow
