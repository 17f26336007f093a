use Rattle.inf_turn_laws.proofs.Directives.{pieces_do_their_directives}
use Rattle.inf_turn_laws.proofs.laws.pieces_do_their_directives.Goals as goal

pub returns : goal.returns
returns c = pieces_do_their_directives
