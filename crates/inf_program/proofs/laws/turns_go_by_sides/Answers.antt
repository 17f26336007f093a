use Rattle.inf_program.proofs.SideTurns.{turns_go_by_sides}
use Rattle.inf_program.proofs.laws.turns_go_by_sides.Goals as goal

pub returns : goal.returns
returns c = turns_go_by_sides
