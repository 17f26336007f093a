use Rattle.inf_routine_laws.proofs.Whole.{routines_have_their_labels}
use Rattle.inf_routine_laws.proofs.laws.routines_have_their_labels.Goals as goal

pub returns : goal.returns
returns c = routines_have_their_labels
