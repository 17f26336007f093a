use Rattle.inf_machine.proofs.SourcePieces.{sources_are_pieces}
use Rattle.inf_machine.proofs.laws.pieces.Goals as goal

pub returns : goal.returns
returns g c = sources_are_pieces
