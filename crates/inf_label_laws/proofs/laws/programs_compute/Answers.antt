-- Lemmas are the answers.
use Rattle.inf_label_laws.proofs.Programs.{programs_compute, programs_push}
use Rattle.inf_label_laws.proofs.laws.programs_compute.Goals as goal

pub returns-clause-value : goal.returns-clause-value
returns-clause-value c = programs_compute

pub returns-clause-pushed : goal.returns-clause-pushed
returns-clause-pushed c = programs_push
