use Rattle.inf_link.proofs.CellLaws.{cells_come_out_as_numbers}
use Rattle.inf_link.proofs.laws.cells_come_out_as_numbers.Goals as goal

pub returns : goal.returns
returns c = cells_come_out_as_numbers
