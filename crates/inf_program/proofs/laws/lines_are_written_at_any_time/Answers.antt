use Rattle.inf_program.proofs.Turns.{lines_are_written_at_any_time}
use Rattle.inf_program.proofs.laws.lines_are_written_at_any_time.Goals as goal

pub returns : goal.returns
returns c = lines_are_written_at_any_time
