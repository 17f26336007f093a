use Rattle.inf_turn_laws.proofs.LocalsNamed.{headers_make_new, unused_are_warned}
use Rattle.inf_turn_laws.proofs.laws.unused_locals_are_warned.Goals as goal

pub returns : goal.returns
returns c = record { warned = unused_are_warned; headers = headers_make_new }
