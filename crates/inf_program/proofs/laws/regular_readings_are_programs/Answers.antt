use Rattle.inf_program.proofs.Readings.{regular_readings_are_programs}
use Rattle.inf_program.proofs.laws.regular_readings_are_programs.Goals as goal

pub returns : goal.returns
returns c = regular_readings_are_programs
