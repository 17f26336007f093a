-- Lemmas are the answers.
use Rattle.inf_veneer_laws.proofs.Kept.{message_is_covered, message_is_gathered, message_is_kept, message_is_read, message_is_spelled}
use Rattle.inf_veneer_laws.proofs.laws.messages_are_read.Goals as goal

pub returns-clause-spelled : goal.returns-clause-spelled
returns-clause-spelled c = message_is_spelled

pub returns-clause-read : goal.returns-clause-read
returns-clause-read c = message_is_read

pub returns-clause-covered : goal.returns-clause-covered
returns-clause-covered c = message_is_covered

pub returns-clause-kept : goal.returns-clause-kept
returns-clause-kept c = message_is_kept

pub returns-clause-gathered : goal.returns-clause-gathered
returns-clause-gathered c = message_is_gathered
