use Rattle.std.proofs.Common.{rules, ◌≡◌, ◌∙◌, ◌+◌, ◌-◌, ◌++◌, Bool, true, false, Result, Ok, Err, refl, sym, ap, subst}
use Rattle.inf_session.specs.Standing.{state}
use Rattle.inf_area.specs.Cells.{later_count}
use Rattle.inf_code.specs.Code.{place_behind}
use Rattle.inf_calls.specs.Answers.{ReadsText, refusal}
use Rattle.inf_calls.specs.Calls.{Answered, added, and_then, routine_body, routine_closed, unless_told}
use Rattle.inf_calls.specs.declared.{cx.Closed.Closed, faults.UnitFault.UnitFault}
use Rattle.inf_calls.proofs.{Called.called_refused, Called.not_refused, Called.refused_never, Counting.added_is}
use Rattle.inf_calls.proofs.cx.Cx.routine_body.Goals as goal

pub returns-in_err-check-clause-called : goal.returns-in_err-check-clause-called
returns-in_err-check-clause-called g c =
    let before = c.args.self.now.session in let fault = c.in_err-check.field-0.0 in
    let r : refusal before ≡ Err fault = sym c.in_err-check.ensures in
    let e : c.from_residual.result ≡ Err fault = search rules in
    called_refused g.F.Files g.M.Sink c.args.files.now c.args.messages.now before fault c.from_residual.result r e
    (λ going. absurd (refused_never before fault r going)) (λ going. absurd (refused_never before fault r going))

pub returns-in_err-read-clause-called : goal.returns-in_err-read-clause-called
returns-in_err-read-clause-called g c =
    let before = c.args.self.now.session in let code = before.progress.work.output.code in
    let e : c.from_residual-in_err-read.result ≡ Err c.in_err-read.field-0.0 = search rules in
    subst (λ (a : Result Closed UnitFault). ReadsText g.F.Files g.M.Sink g.B.Bounds.most (λ s. s) (routine_body g.B.Bounds.most)
    c.args.files.now c.read.new.files c.args.messages.now c.read.new.messages before c.read.new.self.session a) (sym e) (record {
      answers = λ going honest start nested kept.
          let x = c.in_err-read.ensures.reads going honest start nested kept in (
            x.0,
            record {
              lines = x.1.0.lines;
              takes = x.1.0.takes;
              same = λ told. ap (λ (a : Answered Bool). and_then a (routine_closed code)) (x.1.0.same told);
            },
          );
      lost = c.in_err-read.ensures.fails;
      fault = c.in_err-read.ensures.fault;
      adds = c.in_err-read.ensures.adds;
      again = λ fault r. absurd (not_refused before c.in_ok-check.field-0 fault c.in_ok-check.ensures r);
    })

pub returns-then-branch-clause-called : goal.returns-then-branch-clause-called
returns-then-branch-clause-called g c =
    let before = c.args.self.now.session in let code = before.progress.work.output.code in
    let now_code = c.read.new.self.session.progress.work.output.code in let files = g.F.Files in
    let wrong : Result Closed UnitFault = Err UnitFault.Wrong in
    let h : wrong ≡ unless_told c.in_ok-read.field-0 (added code now_code) =
    ap (λ (b : Bool). unless_told b (added code now_code)) (sym c.if-branch.true) in
    let adds = c.in_ok-read.ensures.adds in
    record {
      answers = λ going honest start nested kept.
          let now = state (files.sources c.args.files.now) start (files.openings c.read.new.files) c.read.new.self.session in
          let x = c.in_ok-read.ensures.reads going honest start nested refl in (
            x.0,
            record {
              lines = x.1.0.lines;
              takes = x.1.0.takes;
              same = λ told. ap (λ (a : Result Closed UnitFault). (now (told ++ x.1.0.lines), a)) h
                  ∙ ap (λ (a : Answered Bool). and_then a (routine_closed code)) (x.1.0.same told);
            },
          );
      lost = λ going honest start nested. tt;
      fault = tt;
      adds = (adds.0, ((λ _. adds.1.0 refl), tt));
      again = λ fault r. absurd (not_refused before c.in_ok-check.field-0 fault c.in_ok-check.ensures r);
    }

pub returns-clause-called : goal.returns-clause-called
returns-clause-called g c =
    let before = c.args.self.now.session in let code = before.progress.work.output.code in
    let now_code = c.read.new.self.session.progress.work.output.code in let files = g.F.Files in
    let place : c.next_place-start.result ≡ place_behind code.finished = search rules in
    let refs : c.references_of-refs.result ≡ 4 + later_count code.finished = search rules in
    let start_at = c.next_place-start.result in let before_refs = c.references_of-refs.result in
    let stands : c.closed.result ≡ record {
      start = start_at;
      len = place_behind now_code.finished - start_at;
      refs = 4 + later_count now_code.finished - before_refs;
    } = search rules in
    let is : c.closed.result ≡ added code now_code = added_is code now_code start_at before_refs c.closed.result place refs stands in
    let whole : Result Closed UnitFault = Ok c.closed.result in
    let h : whole ≡ unless_told c.in_ok-read.field-0 (added code now_code) =
    ap (λ (r : Closed). Ok r) is ∙ ap (λ (b : Bool). unless_told b (added code now_code)) (sym c.if-branch.false) in
    let adds = c.in_ok-read.ensures.adds in
    record {
      answers = λ going honest start nested kept.
          let now = state (files.sources c.args.files.now) start (files.openings c.read.new.files) c.read.new.self.session in
          let x = c.in_ok-read.ensures.reads going honest start nested refl in (
            x.0,
            record {
              lines = x.1.0.lines;
              takes = x.1.0.takes;
              same = λ told. ap (λ (a : Result Closed UnitFault). (now (told ++ x.1.0.lines), a)) h
                  ∙ ap (λ (a : Answered Bool). and_then a (routine_closed code)) (x.1.0.same told);
            },
          );
      lost = λ going honest start nested. tt;
      fault = tt;
      adds = (adds.0, ((λ _. adds.1.0 refl), tt));
      again = λ fault r. absurd (not_refused before c.in_ok-check.field-0 fault c.in_ok-check.ensures r);
    }
