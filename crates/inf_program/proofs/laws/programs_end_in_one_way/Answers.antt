use Rattle.inf_program.proofs.Programs.{programs_end_in_one_way}
use Rattle.inf_program.proofs.laws.programs_end_in_one_way.Goals as goal

pub returns : goal.returns
returns c = programs_end_in_one_way
