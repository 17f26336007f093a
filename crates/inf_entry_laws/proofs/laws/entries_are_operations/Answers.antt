-- Lemmas are the answers.
use Rattle.inf_entry_laws.proofs.Entries.{entries_change, headers_change, values_change}
use Rattle.inf_entry_laws.proofs.laws.entries_are_operations.Goals as goal

pub returns : goal.returns
returns c = record { headers = headers_change; entries = entries_change; values = values_change }
