use Rattle.std.proofs.Common.{◌++◌, append_assoc}
use Rattle.inf_report.proofs.Writings.{goes_on, stops}
use Rattle.inf_report.proofs.pieces.write_pieces.Goals as goal

pub returns-in_err-write_two : goal.returns-in_err-write_two
returns-in_err-write_two g c =
    let a = c.args.first.now in
    rw (append_assoc (a ++ c.args.second.now) c.args.third.now c.args.fourth.now)
    (stops _ _ _ _ (a ++ c.args.second.now) (c.args.third.now ++ c.args.fourth.now) c.from_residual.result c.from_residual.ensures.0
    c.in_err-write_two.ensures)

pub returns : goal.returns
returns g c =
    let a = c.args.first.now in
    rw (append_assoc (a ++ c.args.second.now) c.args.third.now c.args.fourth.now)
    (goes_on _ _ _ _ _ _ (a ++ c.args.second.now) (c.args.third.now ++ c.args.fourth.now) c.write_two-2.result c.in_ok-write_two.ensures
    c.write_two-2.ensures)
