-- Lemmas are the answers.
use Rattle.inf_meaning_laws.proofs.Expressions.{values_are_computed, effects_are_done, branches_are_taken}
use Rattle.inf_meaning_laws.proofs.laws.expressions_are_computed.Goals as goal

pub returns-clause-value : goal.returns-clause-value
returns-clause-value c = values_are_computed

pub returns-clause-alone : goal.returns-clause-alone
returns-clause-alone c = effects_are_done

pub returns-clause-branch : goal.returns-clause-branch
returns-clause-branch c = branches_are_taken
