use Rattle.std.proofs.Common.{codes}
use Rattle.inf_report.specs.{Meant.worded, OwnWords.shown}
use Rattle.inf_report.proofs.Writings.{goes_on, stops}
use Rattle.inf_report.proofs.lines.write_plain.Goals as goal

pub returns-in_err-write_shown : goal.returns-in_err-write_shown
returns-in_err-write_shown g c =
    stops _ _ _ _ (shown (worded c.args.words)) (codes "\n") c.from_residual.result c.from_residual.ensures.0 c.in_err-write_shown.ensures

pub returns : goal.returns
returns g c =
    goes_on _ _ _ _ _ _ (shown (worded c.args.words)) (codes "\n") c.write_bytes.result c.in_ok-write_shown.ensures c.write_bytes.ensures
