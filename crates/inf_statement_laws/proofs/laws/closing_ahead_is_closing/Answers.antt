use Rattle.inf_statement_laws.proofs.Laying.{closing_ahead_is_closing}
use Rattle.inf_statement_laws.proofs.laws.closing_ahead_is_closing.Goals as goal

pub returns : goal.returns
returns c = closing_ahead_is_closing
