use Rattle.inf_text_laws.proofs.Plainly.{reads_plainly}
use Rattle.inf_text_laws.proofs.laws.plain_texts_are_their_bytes.Goals as goal

pub returns : goal.returns
returns c = reads_plainly
