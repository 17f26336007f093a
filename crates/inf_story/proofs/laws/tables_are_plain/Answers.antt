use Rattle.inf_story.proofs.Plain.{lookup_is_plain, tables_are_plain}
use Rattle.inf_story.proofs.laws.tables_are_plain.Goals as goal

pub returns-clause-areas : goal.returns-clause-areas
returns-clause-areas c = tables_are_plain

pub returns-clause-looked_up : goal.returns-clause-looked_up
returns-clause-looked_up c = lookup_is_plain
