use Rattle.inf_laws.proofs.Told.{tokens_are_taken_or_told, unfit_tokens_are_told}
use Rattle.inf_laws.proofs.laws.bad_tokens_are_told.Goals as goal

pub returns : goal.returns
returns c = record { kept = tokens_are_taken_or_told; unfit = unfit_tokens_are_told }
