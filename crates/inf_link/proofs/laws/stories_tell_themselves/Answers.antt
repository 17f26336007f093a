use Rattle.inf_link.proofs.StoryLaws.{stories_tell_themselves}
use Rattle.inf_link.proofs.laws.stories_tell_themselves.Goals as goal

pub returns : goal.returns
returns c = stories_tell_themselves
