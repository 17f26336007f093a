-- Lemmas are the answers.
use Rattle.inf_number_laws.proofs.Known.{known_is, known_one, one_stays, two_stay}
use Rattle.inf_number_laws.proofs.laws.known_is_computed.Goals as goal

pub returns : goal.returns
returns c = record { two = known_is; one = known_one; kept = two_stay; kept_one = one_stays }
