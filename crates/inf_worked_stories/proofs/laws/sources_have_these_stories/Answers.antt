-- A lemma is the answer.
use Rattle.inf_worked_stories.proofs.Sources.{stories_are_these}
use Rattle.inf_worked_stories.proofs.laws.sources_have_these_stories.Goals as goal

pub returns : goal.returns
returns c = stories_are_these
