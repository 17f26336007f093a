use Rattle.std.proofs.Common.{None, ap, refl, sym}
use Rattle.inf_session.specs.{Choices.chosen, Standing.state, Veneer.supplied_at}
use Rattle.inf_session.proofs.{Leadings.writes_nothing, Promises.told_fault, Promises.wrote_none, Supplying.supplies_so}
use Rattle.inf_session.proofs.session.Session.read_veneer.Goals as goal

pub returns-in_ok-read_text-in-Some-clause-supplied : goal.returns-in_ok-read_text-in-Some-clause-supplied
returns-in_ok-read_text-in-Some-clause-supplied g c = supplies_so refl c.in_ok-read_text-in-Some.ensures.read
    (λ sources start now told. ap (λ next. supplied_at g.B.Bounds.most (chosen c.args.self.now.setup) next
    (state sources start now c.args.self.now told)) c.in-Some.ensures.next)

pub returns-in_err-read_text-in-Some-clause-supplied : goal.returns-in_err-read_text-in-Some-clause-supplied
returns-in_err-read_text-in-Some-clause-supplied g c =
    supplies_so (told_fault c.from_residual.result _ c.from_residual.ensures.1) c.in_err-read_text-in-Some.ensures.read
    (λ sources start now told. ap (λ next. supplied_at g.B.Bounds.most (chosen c.args.self.now.setup) next
    (state sources start now c.args.self.now told)) c.in-Some.ensures.next)

pub returns-in-None-clause-supplied : goal.returns-in-None-clause-supplied
returns-in-None-clause-supplied g c = record {
  made = λ sources start now. writes_nothing (g.M.Sink.taken c.args.messages.now)
      (λ told. ap (λ next. supplied_at g.B.Bounds.most (chosen c.args.self.now.setup) next (state sources start now c.args.self.now told))
      (sym c.in-None.ensures.next));
  broken = λ sources start now. tt;
  files = refl;
  setup = refl;
  cause = tt;
  wrote = wrote_none None;
}
