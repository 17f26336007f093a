-- The law is a lemma about lists of items.
use Rattle.inf_assembler_laws.proofs.Decoded.{routine_read, returns_read}
use Rattle.inf_assembler_laws.proofs.laws.decoding.Goals as goal

pub returns-clause-routines : goal.returns-clause-routines
returns-clause-routines c = λ place locals items is_final body rest proper e. routine_read place items body rest proper e

pub returns-clause-returns : goal.returns-clause-returns
returns-clause-returns c = returns_read
