use Rattle.inf_link.proofs.StoryLaws.{areas_stand_at_their_bases}
use Rattle.inf_link.proofs.laws.areas_stand_at_their_bases.Goals as goal

pub returns : goal.returns
returns c = areas_stand_at_their_bases
