use Rattle.inf_grammar.proofs.OpenRoutines.{open_routines_are_bracketed, left_routines_are_bracketed}
use Rattle.inf_grammar.proofs.laws.routines_are_bracketed.Goals as goal

pub returns : goal.returns
returns c = record { begun = open_routines_are_bracketed; left = left_routines_are_bracketed }
