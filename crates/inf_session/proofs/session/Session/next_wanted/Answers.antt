use Rattle.std.proofs.Common.{sym, ◌∙◌, arith}
use Rattle.inf_session.proofs.Supplying.{first_next}
use Rattle.inf_session.proofs.session.Session.next_wanted.Goals as goal

pub loop-number-preserved : goal.loop-number-preserved
loop-number-preserved g c =
    let inv = c.loop-number.invariant in
    let names = c.args.self.now.progress.work.output.names in (
      sym (first_next c.loop-number.number names (omega (arith, c.loop-number-test.true)) (sym c.wants.ensures ∙ c.if-wants.false)) ∙ inv.0,
      omega (arith, inv.1),
    )
