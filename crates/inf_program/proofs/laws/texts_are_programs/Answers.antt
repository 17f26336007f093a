use Rattle.inf_program.proofs.Supplied.{texts_are_programs}
use Rattle.inf_program.proofs.laws.texts_are_programs.Goals as goal

pub returns : goal.returns
returns c = texts_are_programs
