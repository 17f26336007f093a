use Rattle.inf_turn_laws.proofs.RoutinePieces.{pieces_do_their_routines}
use Rattle.inf_turn_laws.proofs.laws.pieces_do_their_routines.Goals as goal

pub returns : goal.returns
returns c = pieces_do_their_routines
