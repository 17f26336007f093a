-- Lemmas are the answers.
use Rattle.inf_declaration_laws.proofs.{Arrays.entries_agree, Arrays.headers_open, Bytes.bytes_agree}
use Rattle.inf_declaration_laws.proofs.laws.arrays_are_described.Goals as goal

pub returns : goal.returns
returns c = record { entries = entries_agree; headers = headers_open; bytes = bytes_agree }
