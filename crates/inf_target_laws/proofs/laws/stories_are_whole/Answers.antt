use Rattle.inf_target_laws.proofs.Story.{stories_are_whole}
use Rattle.inf_target_laws.proofs.laws.stories_are_whole.Goals as goal

pub returns : goal.returns
returns c = stories_are_whole
