use Rattle.inf_properties.proofs.Having.{found-inherited}
use Rattle.inf_properties.proofs.laws.what_an_object_has.Goals as goal

pub returns : goal.returns
returns c = found-inherited
