use Rattle.inf_turn_laws.proofs.Acted.{pieces_do_their_actions}
use Rattle.inf_turn_laws.proofs.laws.pieces_do_their_actions.Goals as goal

pub returns : goal.returns
returns c = pieces_do_their_actions
