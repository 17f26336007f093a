-- The law is a lemma by evaluation.
use Rattle.inf_assembler_laws.proofs.Rows.{named}
use Rattle.inf_assembler_laws.proofs.laws.names.Goals as goal

pub returns : goal.returns
returns c = named
