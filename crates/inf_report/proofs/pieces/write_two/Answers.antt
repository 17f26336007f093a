use Rattle.inf_report.proofs.Writings.{goes_on, stops}
use Rattle.inf_report.proofs.pieces.write_two.Goals as goal

pub returns-in_err-write_bytes : goal.returns-in_err-write_bytes
returns-in_err-write_bytes g c =
    stops _ _ _ _ c.args.first.now c.args.second.now c.from_residual.result c.from_residual.ensures.0 c.in_err-write_bytes.ensures

pub returns : goal.returns
returns g c =
    goes_on _ _ _ _ _ _ c.args.first.now c.args.second.now c.write_bytes-2.result c.in_ok-write_bytes.ensures c.write_bytes-2.ensures
