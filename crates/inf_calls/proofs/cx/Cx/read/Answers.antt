use Rattle.std.proofs.Common.{rules, ◌≡◌, Bool, true, false, nat_lt, cond, Result, Ok, Err, refl, sym, ap, subst, ◌∙◌}
use Rattle.inf_session.specs.{Choices.chosen, Standing.state}
use Rattle.inf_calls.specs.{Answers.Adds, Answers.HasCause, Answers.ReadFails, Answers.Stays, declared.faults.UnitFault.UnitFault}
use Rattle.inf_calls.proofs.Calling.{part_calls}
use Rattle.inf_calls.proofs.cx.Cx.read.Goals as goal

pub returns-in_err-step-clause-fails : goal.returns-in_err-step-clause-fails
returns-in_err-step-clause-fails g c =
    let e : c.from_residual.result ≡ Err (UnitFault.Lost c.in_err-step.field-0.0) = search rules in
    subst (λ (a : Result Bool UnitFault). ReadFails g.F.Files g.M.Sink g.B.Bounds.most (λ s. s) c.args.files.now c.step.new.files
    c.args.messages.now c.step.new.messages c.args.self.now.session c.step.new.self a) (sym e) (λ going honest start nested.
    let h = c.in_err-step.ensures.called.broken honest start nested going in
    record { turns = h.turns; cut = h.cut; others = h.others; opened = h.opened; unread = h.unread })

pub returns-in_err-step-clause-stays : goal.returns-in_err-step-clause-stays
returns-in_err-step-clause-stays g c =
    let e : c.from_residual.result ≡ Err (UnitFault.Lost c.in_err-step.field-0.0) = search rules in
    subst (λ (a : Result Bool UnitFault). Stays g.F.Files c.args.files.now c.step.new.files c.args.self.now.session c.step.new.self a)
    (sym e) (record {
      went = c.step.ensures.called.went;
      is_open = c.step.ensures.is_open;
      set = c.step.ensures.set;
      setup = c.step.ensures.called.setup;
      goes = λ kept. let never : true ≡ false = kept in cc;
      fits = λ kept. let never : true ≡ false = kept in cc;
    })

pub returns-in_err-step-clause-fault : goal.returns-in_err-step-clause-fault
returns-in_err-step-clause-fault g c =
    let e : c.from_residual.result ≡ Err (UnitFault.Lost c.in_err-step.field-0.0) = search rules in
    subst (λ (a : Result Bool UnitFault). HasCause g.F.Files g.M.Sink c.args.files.now c.step.new.files c.args.messages.now
    c.step.new.messages c.args.self.now.session c.step.new.self a) (sym e) c.in_err-step.ensures.called.cause

pub returns-in_err-step-clause-adds : goal.returns-in_err-step-clause-adds
returns-in_err-step-clause-adds g c =
    let e : c.from_residual.result ≡ Err (UnitFault.Lost c.in_err-step.field-0.0) = search rules in
    subst (λ (a : Result Bool UnitFault). Adds g.M.Sink c.args.messages.now c.step.new.messages a) (sym e)
    (c.in_err-step.ensures.wrote.appends, ((λ kept. let never : true ≡ false = kept in cc), c.in_err-step.ensures.wrote.quiet))

pub returns-then-is_over-clause-reads : goal.returns-then-is_over-clause-reads
returns-then-is_over-clause-reads g c = λ going honest start nested kept.
    let files = g.F.Files in let s = files.sources c.args.files.now in let o = chosen c.args.self.now.session.setup in
    let was = state s start (files.openings c.args.files.now) c.args.self.now.session in
    let now = state s start (files.openings c.step.new.files) c.step.new.self in
    let p = c.in_ok-step.ensures.called.made honest start nested going in
    let errors = c.args.self.now.session.progress.work.report.counts.errors in
    let counts = c.step.new.self.progress.work.report.counts in
    let over : counts.is_over ≡ true = sym c.is_over.ensures ∙ c.if-is_over.true in (
      p.0,
      (
        part_calls g.B.Bounds.most s o p.0 was now (g.M.Sink.taken c.args.messages.now) (g.M.Sink.taken c.step.new.messages) errors
            (Err UnitFault.Fatal) (λ told. refl)
            (λ told. ap (λ (b : Bool). cond b (Err UnitFault.Fatal) (Ok (nat_lt errors counts.errors))) (sym over)) p.1.0,
        p.1.1,
      ),
    )

pub returns-clause-reads : goal.returns-clause-reads
returns-clause-reads g c = λ going honest start nested kept.
    let files = g.F.Files in let s = files.sources c.args.files.now in let o = chosen c.args.self.now.session.setup in
    let was = state s start (files.openings c.args.files.now) c.args.self.now.session in
    let now = state s start (files.openings c.step.new.files) c.step.new.self in
    let p = c.in_ok-step.ensures.called.made honest start nested going in
    let errors = c.args.self.now.session.progress.work.report.counts.errors in
    let counts = c.step.new.self.progress.work.report.counts in
    let over : counts.is_over ≡ false = sym c.is_over.ensures ∙ c.if-is_over.false in
    let before : nat_lt c.errors-before.result c.errors.result ≡ nat_lt errors c.errors.result =
    ap (λ n. nat_lt n c.errors.result) c.errors-before.ensures in
    let behind : nat_lt errors c.errors.result ≡ nat_lt errors counts.errors = ap (λ n. nat_lt errors n) c.errors.ensures in (
      p.0,
      (
        part_calls g.B.Bounds.most s o p.0 was now (g.M.Sink.taken c.args.messages.now) (g.M.Sink.taken c.step.new.messages) errors
            (Ok (nat_lt c.errors-before.result c.errors.result)) (λ told. refl) (λ told. ap (λ (b : Bool). Ok b) (before ∙ behind)
            ∙ ap (λ (b : Bool). cond b (Err UnitFault.Fatal) (Ok (nat_lt errors counts.errors))) (sym over)) p.1.0,
        p.1.1,
      ),
    )

pub returns-then-is_over-clause-stays : goal.returns-then-is_over-clause-stays
returns-then-is_over-clause-stays g c = record {
  went = c.step.ensures.called.went;
  is_open = c.step.ensures.is_open;
  set = c.step.ensures.set;
  setup = c.step.ensures.called.setup;
  goes = λ kept. c.in_ok-step.ensures.goes;
  fits = λ kept. c.in_ok-step.ensures.called.fits;
}

pub returns-then-is_over-clause-adds : goal.returns-then-is_over-clause-adds
returns-then-is_over-clause-adds g c = (c.in_ok-step.ensures.wrote.appends, ((λ kept. c.in_ok-step.ensures.wrote.quiet), tt))

pub returns-clause-stays : goal.returns-clause-stays
returns-clause-stays g c = record {
  went = c.step.ensures.called.went;
  is_open = c.step.ensures.is_open;
  set = c.step.ensures.set;
  setup = c.step.ensures.called.setup;
  goes = λ kept. c.in_ok-step.ensures.goes;
  fits = λ kept. c.in_ok-step.ensures.called.fits;
}

pub returns-clause-adds : goal.returns-clause-adds
returns-clause-adds g c = (c.in_ok-step.ensures.wrote.appends, ((λ kept. c.in_ok-step.ensures.wrote.quiet), tt))
