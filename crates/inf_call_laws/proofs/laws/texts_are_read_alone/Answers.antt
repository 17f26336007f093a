use Rattle.inf_call_laws.proofs.Texts.{texts_are_read_alone}
use Rattle.inf_call_laws.proofs.laws.texts_are_read_alone.Goals as goal

pub returns : goal.returns
returns c = texts_are_read_alone
