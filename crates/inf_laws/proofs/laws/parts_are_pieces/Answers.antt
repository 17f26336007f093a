use Rattle.inf_laws.proofs.Parts.{parts_are_pieces, parts_end_with_pieces}
use Rattle.inf_laws.proofs.laws.parts_are_pieces.Goals as goal

pub returns : goal.returns
returns c = record { pieces = parts_are_pieces; ends = parts_end_with_pieces }
