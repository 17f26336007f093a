-- The law is a lemma about cells.
use Rattle.std.proofs.Common.{◌+◌, arith}
use Rattle.inf_assembler.specs.Routines.{long_places}
use Rattle.inf_assembler_laws.proofs.Placed.{no_later}
use Rattle.inf_assembler_laws.proofs.laws.places.Goals as goal

pub returns : goal.returns
returns c = λ place contents label. no_later (long_places place contents) (place + 1) (place + 1) contents.cells label (omega arith)
