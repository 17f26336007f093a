use Rattle.inf_objects.proofs.Saying.{said_in_order}
use Rattle.inf_objects.proofs.laws.attributes_in_order.Goals as goal

pub returns : goal.returns
returns c = said_in_order
