use Rattle.inf_program.proofs.Programs.{turns_do_programs}
use Rattle.inf_program.proofs.laws.turns_do_programs.Goals as goal

pub returns : goal.returns
returns c = turns_do_programs
