use Rattle.inf_turn_laws.proofs.Routines.{turns_read_routines_whole}
use Rattle.inf_turn_laws.proofs.laws.turns_read_routines_whole.Goals as goal

pub returns : goal.returns
returns c = turns_read_routines_whole
