use Rattle.inf_message_laws.proofs.Walked.{reports_go_on}
use Rattle.inf_message_laws.proofs.laws.reports_go_on.Goals as goal

pub returns : goal.returns
returns c = reports_go_on
