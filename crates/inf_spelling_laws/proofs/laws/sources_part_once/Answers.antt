-- A lemma is the answer.
use Rattle.inf_spelling_laws.proofs.Spelling.{sources_part_once}
use Rattle.inf_spelling_laws.proofs.laws.sources_part_once.Goals as goal

pub returns : goal.returns
returns c = sources_part_once
