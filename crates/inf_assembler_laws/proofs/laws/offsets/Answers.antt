-- The law is a lemma about cells.
use Rattle.std.proofs.Common.{◌+◌, [], refl, arith}
use Rattle.inf_assembler_laws.proofs.Fits.{fields_within}
use Rattle.inf_assembler_laws.proofs.laws.offsets.Goals as goal

pub returns : goal.returns
returns c = λ place contents body e. fields_within contents.cells (place + 1) [] contents.cells (place + 1) (place + 1) body (omega arith)
    (omega arith) refl e
