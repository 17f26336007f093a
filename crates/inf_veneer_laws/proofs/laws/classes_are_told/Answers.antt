-- Lemmas are the answers.
use Rattle.inf_veneer_laws.proofs.{Classes.classes_are_told, Comparing.numbers_are_compared, Regions.regions_are_told}
use Rattle.inf_veneer_laws.proofs.laws.classes_are_told.Goals as goal

pub returns-clause-compared : goal.returns-clause-compared
returns-clause-compared c = numbers_are_compared

pub returns-clause-kinds : goal.returns-clause-kinds
returns-clause-kinds c = regions_are_told

pub returns-clause-told : goal.returns-clause-told
returns-clause-told c = classes_are_told
