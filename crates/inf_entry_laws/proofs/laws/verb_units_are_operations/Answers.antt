-- A lemma is the answer.
use Rattle.inf_entry_laws.proofs.Verbs.{verbs_change}
use Rattle.inf_entry_laws.proofs.laws.verb_units_are_operations.Goals as goal

pub returns : goal.returns
returns c = verbs_change
