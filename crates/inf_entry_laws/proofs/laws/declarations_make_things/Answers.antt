-- A lemma is the answer.
use Rattle.inf_entry_laws.proofs.Runs.{declarations_make_things}
use Rattle.inf_entry_laws.proofs.laws.declarations_make_things.Goals as goal

pub returns : goal.returns
returns c = declarations_make_things
