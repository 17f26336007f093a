use Rattle.std.proofs.Common.{refl}
use Rattle.inf_veneer.specs.Texts.{all_names, all_texts}
use Rattle.inf_veneer.proofs.laws.names_come_behind.Goals as goal

pub returns : goal.returns
unfolding all_names all_texts
returns c = refl
