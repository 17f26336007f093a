use Rattle.inf_statement_laws.proofs.Laying.{statements_leave_what_is_open}
use Rattle.inf_statement_laws.proofs.laws.statements_leave_what_is_open.Goals as goal

pub returns : goal.returns
returns c = statements_leave_what_is_open
