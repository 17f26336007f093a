-- Lemmas are the answers.
use Rattle.inf_world_laws.proofs.{Lists.properties_agree, Order.order_agrees, Properties.values_agree}
use Rattle.inf_world_laws.proofs.laws.properties_agree.Goals as goal

pub returns : goal.returns
returns c = record { values = values_agree; order = order_agrees; list = properties_agree }
