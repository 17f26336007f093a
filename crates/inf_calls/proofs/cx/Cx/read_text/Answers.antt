use Rattle.std.proofs.Common.{rules, ◌≡◌, ◌∷◌, Bool, Result, Ok, Err, refl, sym, ap, subst}
use Rattle.inf_machine.specs.declared.symbols.Symbol.{Symbol}
use Rattle.inf_reader.specs.declared.progress.Progress.{Progress}
use Rattle.inf_session.specs.{Session.State, Standing.state}
use Rattle.inf_ending.specs.declared.faults.Fault.{Fault}
use Rattle.inf_ending.proofs.Delivering.{appends_none}
use Rattle.inf_calls.specs.{Answers.ReadsPart, Answers.refusal, Calls.begun_with_rule, Calls.part_read, declared.faults.UnitFault.UnitFault}
use Rattle.inf_calls.proofs.{Called.called_refused, Called.not_refused, Called.refused_never}
use Rattle.inf_calls.proofs.Joining.{fails_at_once, fails_from, reads_from}
use Rattle.inf_calls.proofs.cx.Cx.read_text.Goals as goal

pub returns-in_err-check-clause-called : goal.returns-in_err-check-clause-called
returns-in_err-check-clause-called g c =
    let before = c.args.self.now.session in let fault = c.in_err-check.field-0.0 in
    let r : refusal before ≡ Err fault = sym c.in_err-check.ensures in
    let e : c.from_residual.result ≡ Err fault = search rules in
    called_refused g.F.Files g.M.Sink c.args.files.now c.args.messages.now before fault c.from_residual.result r e
    (λ going. absurd (refused_never before fault r going)) (λ going. absurd (refused_never before fault r going))

pub returns-in_err-start-clause-called : goal.returns-in_err-start-clause-called
returns-in_err-start-clause-called g c =
    let before = c.args.self.now.session in let reader = record before.progress.reader { machine = c.start.new.self } in
    let after = record before { progress = record before.progress { reader = reader } } in
    let begin = begun_with_rule c.args.rule in
    let e : c.from_residual-in_err-start.result ≡ Err (UnitFault.Lost Fault.Memory) = search rules in
    subst (λ (a : Result Bool UnitFault). ReadsPart g.F.Files g.M.Sink g.B.Bounds.most begin (part_read g.B.Bounds.most) c.args.files.now
    c.args.files.now c.args.messages.now c.args.messages.now before after a) (sym e) (record {
      answers = λ going honest start nested kept. cc;
      lost = fails_at_once g.F.Files g.M.Sink g.B.Bounds.most c.args.files.now c.args.files.now c.args.messages.now c.args.messages.now
          c.args.messages.now before before after {T = Bool} begin (Err (UnitFault.Lost Fault.Memory)) refl refl (λ s. refl) (λ s. refl)
          refl;
      fault = tt;
      adds = (appends_none g.M.Sink c.args.messages.now, ((λ _. refl), refl));
      again = λ fault r. absurd (not_refused before c.in_ok-check.field-0 fault c.in_ok-check.ensures r);
    })

pub returns-clause-called : goal.returns-clause-called
returns-clause-called g c =
    let before = c.args.self.now.session in let after = c.read.new.self.session in
    let reader = record before.progress.reader { machine = c.start.new.self } in
    let p = record before.progress { reader = reader } in
    record {
      answers = reads_from g.F.Files g.M.Sink g.B.Bounds.most c.args.files.now c.read.new.files c.args.messages.now c.args.messages.now
          c.read.new.messages before before after p (λ s. s) (begun_with_rule c.args.rule) (part_read g.B.Bounds.most) c.read.result (λ
          going. going) (λ sources start now told.
          let s = state sources start now before told in
          ap (λ stack. record s { reading = record s.reading { stack = stack } }) c.in_ok-start.ensures.ok) c.read.ensures.reads;
      lost = fails_from g.F.Files g.M.Sink g.B.Bounds.most c.args.files.now c.read.new.files c.args.messages.now c.args.messages.now
          c.read.new.messages before before after p (λ s. s) (begun_with_rule c.args.rule) c.read.result (λ going. going)
          (λ sources start now told.
          let s = state sources start now before told in
          ap (λ stack. record s { reading = record s.reading { stack = stack } }) c.in_ok-start.ensures.ok) c.read.ensures.fails;
      fault = c.read.ensures.fault;
      adds = c.read.ensures.adds;
      again = λ fault r. absurd (not_refused before c.in_ok-check.field-0 fault c.in_ok-check.ensures r);
    }
