use Rattle.inf_statement_laws.proofs.Laying.{units_keep_labels}
use Rattle.inf_statement_laws.proofs.laws.units_keep_labels.Goals as goal

pub returns : goal.returns
returns c = units_keep_labels
