-- Lemmas are the answers.
use Rattle.inf_declaration_laws.proofs.Directives.{counts_agree, names_agree}
use Rattle.inf_declaration_laws.proofs.laws.numbers_are_counts.Goals as goal

pub returns : goal.returns
returns c = record { names = names_agree; counts = counts_agree }
