use Rattle.std.proofs.Common.{rules, ◌≡◌, ◌++◌, Result, Err, sym, ap, subst, ◌∙◌, append_assoc}
use Rattle.std.specs.Bool.{⊤}
use Rattle.inf_ending.specs.declared.faults.Fault.{Fault}
use Rattle.inf_calls.specs.{Answers.EndsCut, Calls.tell, declared.faults.UnitFault.UnitFault}
use Rattle.inf_calls.proofs.cx.Cx.tell.Goals as goal

pub returns-in_err-flush-clause-cut : goal.returns-in_err-flush-clause-cut
returns-in_err-flush-clause-cut g c =
    let part = c.in_err-flush.ensures.writes.0 in let lines = c.args.self.now.session.progress.work.report.lines in
    let e : c.from_residual.result ≡ Err (UnitFault.Lost Fault.Messages) = search rules in
    subst (λ (a : Result ⊤ UnitFault). EndsCut g.M.Sink tell c.args.messages.now c.flush.new.to c.args.self.now.session a) (sym e)
    (λ sources start now. record {
      front = part.front;
      takes = part.takes;
      begins = λ told. record { rest = part.rest; is_cut = ap (λ l. told ++ l) part.is_cut ∙ sym (append_assoc told part.front part.rest) };
    })
