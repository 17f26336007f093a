use Rattle.inf_link.proofs.FillingLaws.{fixups_are_filled_in_any_order}
use Rattle.inf_link.proofs.laws.fixups_are_filled_in_any_order.Goals as goal

pub returns : goal.returns
returns c = fixups_are_filled_in_any_order
