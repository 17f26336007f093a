use Rattle.std.proofs.Common.{rules}
use Rattle.inf_report.proofs.report.Report.error.Goals as goal

pub returns-in_err-write_line-clause-writes : goal.returns-in_err-write_line-clause-writes
returns-in_err-write_line-clause-writes g c = search rules

pub invariant_of-self : goal.invariant_of-self
invariant_of-self g c = search rules

pub returns-clause-writes : goal.returns-clause-writes
returns-clause-writes g c = search rules

pub returns-clause-counts : goal.returns-clause-counts
returns-clause-counts g c = search rules

pub returns-in_err-write_last-clause-writes : goal.returns-in_err-write_last-clause-writes
returns-in_err-write_last-clause-writes g c = search rules
