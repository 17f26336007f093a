use Rattle.std.proofs.Common.{rules, ◌≡◌, ◌∙◌, Option, Result, Ok, Err, refl, sym, ap, subst}
use Rattle.inf_output.specs.declared.operands.Simple.{Simple}
use Rattle.inf_session.specs.{Choices.chosen, Standing.state}
use Rattle.inf_ending.specs.declared.faults.Fault.{Fault}
use Rattle.inf_calls.specs.Answers.{Ends, EndsCut}
use Rattle.inf_calls.specs.Calls.{expression_answer, expression_carried, expression_ended}
use Rattle.inf_calls.specs.declared.faults.UnitFault.{UnitFault}
use Rattle.inf_calls.proofs.Endings.{carried_calls, carried_cut, none_cut, never_lost}
use Rattle.inf_calls.proofs.Joining.{if_failure}
use Rattle.inf_calls.proofs.cx.Cx.end.Goals as goal

pub returns-in_err-ended-clause-cut : goal.returns-in_err-ended-clause-cut
returns-in_err-ended-clause-cut g c =
    let before = c.args.self.now.session in let o = chosen before.setup in
    let e : c.from_residual.result ≡ Err (UnitFault.Lost Fault.Memory) = search rules in
    subst (λ (a : Result (Option Simple) UnitFault). EndsCut g.M.Sink (expression_ended g.B.Bounds.most o c.args.wanted)
    c.args.messages.now c.args.messages.now before a) (sym e)
    (λ sources start now. none_cut (expression_carried g.B.Bounds.most o c.args.wanted) expression_answer (state sources start now before)
    (g.M.Sink.taken c.args.messages.now) (λ s. refl) (λ told. refl))

pub returns-in_err-tell-clause-ended : goal.returns-in_err-tell-clause-ended
returns-in_err-tell-clause-ended g c =
    let before = c.args.self.now.session in let mid = c.carry_out.new.session in let after = c.tell.new.self.session in
    let o = chosen before.setup in let f = c.in_err-tell.field-0.0 in
    let e : c.from_residual-in_err-tell.result ≡ Err f = search rules in
    subst (λ (a : Result (Option Simple) UnitFault). Ends g.M.Sink (expression_ended g.B.Bounds.most o c.args.wanted)
    c.args.messages.now c.tell.new.messages before after a) (sym e)
    (λ sources start now kept. carried_calls (expression_carried g.B.Bounds.most o c.args.wanted) expression_answer c.in_ok-ended.ended
    (state sources start now before) (state sources start now mid) (state sources start now after) (Err f) (Err f)
    (g.M.Sink.taken c.args.messages.now) (g.M.Sink.taken c.tell.new.messages) (λ s. refl)
    (c.in_ok-ended.ensures.ended sources start now) (c.in_err-tell.ensures.tells sources start now kept))

pub returns-in_err-tell-clause-cut : goal.returns-in_err-tell-clause-cut
returns-in_err-tell-clause-cut g c =
    let before = c.args.self.now.session in let mid = c.carry_out.new.session in let o = chosen before.setup in
    let f = c.in_err-tell.field-0.0 in let e : c.from_residual-in_err-tell.result ≡ Err f = search rules in
    subst (λ (a : Result (Option Simple) UnitFault). EndsCut g.M.Sink (expression_ended g.B.Bounds.most o c.args.wanted)
    c.args.messages.now c.tell.new.messages before a) (sym e)
    (λ sources start now. if_failure f _ _ (λ fault cut. carried_cut (expression_carried g.B.Bounds.most o c.args.wanted)
    expression_answer c.in_ok-ended.ended
    (state sources start now before) (state sources start now mid) (g.M.Sink.taken c.args.messages.now)
    (g.M.Sink.taken c.tell.new.messages) (c.in_ok-ended.ensures.ended sources start now) cut) (c.in_err-tell.ensures.cut sources start now))

pub returns-clause-ended : goal.returns-clause-ended
returns-clause-ended g c =
    let before = c.args.self.now.session in let mid = c.carry_out.new.session in let after = c.tell.new.self.session in
    let o = chosen before.setup in
    subst (λ (a : Result (Option Simple) UnitFault). Ends g.M.Sink (expression_ended g.B.Bounds.most o c.args.wanted)
    c.args.messages.now c.tell.new.messages before after a) (sym c.answer.ensures)
    (λ sources start now kept. carried_calls (expression_carried g.B.Bounds.most o c.args.wanted) expression_answer c.in_ok-ended.ended
    (state sources start now before) (state sources start now mid) (state sources start now after) (Ok c.in_ok-tell.field-0)
    (expression_answer c.in_ok-ended.ended) (g.M.Sink.taken c.args.messages.now) (g.M.Sink.taken c.tell.new.messages) (λ s. refl)
    (c.in_ok-ended.ensures.ended sources start now) (c.in_ok-tell.ensures.tells sources start now refl))

pub returns-clause-cut : goal.returns-clause-cut
returns-clause-cut g c = subst (λ (a : Result (Option Simple) UnitFault). EndsCut g.M.Sink (expression_ended g.B.Bounds.most (chosen
    c.args.self.now.session.setup) c.args.wanted) c.args.messages.now c.tell.new.messages c.args.self.now.session a) (sym c.answer.ensures)
    (λ sources start now. never_lost c.in_ok-ended.ended _)
