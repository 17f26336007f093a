-- Lemmas are the answers.
use Rattle.inf_veneer_laws.proofs.{Reading.properties_are_read, Writing.properties_are_provided, Writing.properties_are_written}
use Rattle.inf_veneer_laws.proofs.laws.properties_meet_their_contracts.Goals as goal

pub returns-clause-written : goal.returns-clause-written
returns-clause-written c = properties_are_written

pub returns-clause-provided : goal.returns-clause-provided
returns-clause-provided c = properties_are_provided

pub returns-clause-read : goal.returns-clause-read
returns-clause-read c = properties_are_read
