use Rattle.inf_language.proofs.TextsActed.{texts_do_their_actions}
use Rattle.inf_language.proofs.laws.texts_do_their_actions.Goals as goal

pub returns : goal.returns
returns c = texts_do_their_actions
