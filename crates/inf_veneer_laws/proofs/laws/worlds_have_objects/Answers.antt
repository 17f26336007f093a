-- Lemmas are the answers.
use Rattle.inf_veneer_laws.proofs.Worlds.{worlds_have_classes, worlds_have_messages, worlds_have_objects, worlds_keep_locals}
use Rattle.inf_veneer_laws.proofs.laws.worlds_have_objects.Goals as goal

pub returns-clause-objects : goal.returns-clause-objects
returns-clause-objects c = worlds_have_objects

pub returns-clause-classes : goal.returns-clause-classes
returns-clause-classes c = worlds_have_classes

pub returns-clause-messages : goal.returns-clause-messages
returns-clause-messages c = worlds_have_messages

pub returns-clause-locals : goal.returns-clause-locals
returns-clause-locals c = worlds_keep_locals
