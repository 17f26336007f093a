use Rattle.inf_text_laws.proofs.Joining.{reads_joined}
use Rattle.inf_text_laws.proofs.laws.joined_texts_are_read_joined.Goals as goal

pub returns : goal.returns
returns c = reads_joined
