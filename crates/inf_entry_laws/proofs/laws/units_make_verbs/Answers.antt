-- A lemma is the answer.
use Rattle.inf_entry_laws.proofs.VerbChains.{units_make_verbs}
use Rattle.inf_entry_laws.proofs.laws.units_make_verbs.Goals as goal

pub returns : goal.returns
returns c = units_make_verbs
