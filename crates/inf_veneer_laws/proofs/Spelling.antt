-- The texts are the spellings of the trees, as evaluation shows.
use Rattle.std.proofs.Common.{refl}
use Rattle.std.specs.Fmt.{digits}
use Rattle.inf_veneer.specs.Texts.{all_names, all_texts}
use Rattle.inf_veneer_laws.specs.Laws.{TextsAreSpelled}

pub texts_are_spelled : TextsAreSpelled
unfolding all_names all_texts digits
texts_are_spelled = (refl, refl, refl, refl, refl, refl, refl, refl, refl, refl, refl, refl, refl, refl, refl)
