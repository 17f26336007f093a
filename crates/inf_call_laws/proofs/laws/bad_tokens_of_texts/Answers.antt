use Rattle.inf_call_laws.proofs.BadTexts.{bad_tokens_of_texts}
use Rattle.inf_call_laws.proofs.laws.bad_tokens_of_texts.Goals as goal

pub returns : goal.returns
returns c = bad_tokens_of_texts
