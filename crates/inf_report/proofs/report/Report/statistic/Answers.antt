use Rattle.std.proofs.Common.{rules}
use Rattle.inf_report.proofs.report.Report.statistic.Goals as goal

pub returns : goal.returns
returns g c = search rules
