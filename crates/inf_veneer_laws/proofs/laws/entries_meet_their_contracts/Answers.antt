-- Lemmas are the answers.
use Rattle.inf_veneer_laws.proofs.Entries.{entries_are_stepped, entries_are_written}
use Rattle.inf_veneer_laws.proofs.laws.entries_meet_their_contracts.Goals as goal

pub returns-clause-written : goal.returns-clause-written
returns-clause-written c = entries_are_written

pub returns-clause-stepped : goal.returns-clause-stepped
returns-clause-stepped c = entries_are_stepped
