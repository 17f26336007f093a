-- Lemmas are the answers.
use Rattle.inf_label_laws.proofs.Programs.{examples_are_evaluated, waiting_values_are_lost}
use Rattle.inf_label_laws.proofs.laws.examples_are_evaluated.Goals as goal

pub returns-clause-printed : goal.returns-clause-printed
returns-clause-printed c = examples_are_evaluated

pub returns-clause-lost : goal.returns-clause-lost
returns-clause-lost c = waiting_values_are_lost
