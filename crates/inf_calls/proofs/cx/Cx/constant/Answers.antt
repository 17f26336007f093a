use Rattle.std.proofs.Common.{rules, ◌≡◌, Option, Result, Ok, Err, refl, sym, ap, subst}
use Rattle.std.specs.Bool.{⊤}
use Rattle.inf_devices.specs.Files.{Rose}
use Rattle.inf_area.specs.declared.targets.Value.{Value}
use Rattle.inf_calls.specs.Answers.{Answers, Fails}
use Rattle.inf_calls.specs.Calls.{alone_constant, begun_with_rule, constant, constant_ended, whole_read}
use Rattle.inf_calls.specs.declared.faults.UnitFault.{UnitFault}
use Rattle.inf_calls.proofs.Called.{called_failed, went_on}
use Rattle.inf_calls.proofs.Joining.{adds_then, answers_failed, answers_then, caused_here, fails_first, fails_then, stays_here}
use Rattle.inf_calls.proofs.cx.Cx.constant.Goals as goal

pub returns-in_err-read_whole-clause-called : goal.returns-in_err-read_whole-clause-called
returns-in_err-read_whole-clause-called g c =
    let before = c.args.self.now.session in let after = c.read_whole.new.self.session in
    let begin = begun_with_rule alone_constant in let fault = c.in_err-read_whole.field-0.0 in
    let e : c.from_residual.result ≡ Err fault = search rules in
    called_failed g.F.Files g.M.Sink c.args.files.now c.read_whole.new.files c.args.messages.now c.read_whole.new.messages before after
    fault c.from_residual.result e
    (subst (λ (a : Result Value UnitFault). Answers g.F.Files g.M.Sink (constant g.B.Bounds.most) c.args.files.now
    c.read_whole.new.files c.args.messages.now c.read_whole.new.messages before after a) (sym e)
    (answers_failed g.F.Files g.M.Sink g.B.Bounds.most c.args.files.now c.read_whole.new.files c.args.messages.now c.args.messages.now
    c.read_whole.new.messages before before after begin (λ sources o turns s. whole_read g.B.Bounds.most sources o turns (begin s))
    (λ o _. constant_ended g.B.Bounds.most o) fault c.in_err-read_whole.ensures.called.answers))
    (subst (λ (a : Result Value UnitFault). Fails g.F.Files g.M.Sink g.B.Bounds.most begin (constant g.B.Bounds.most)
    c.args.files.now c.read_whole.new.files c.args.messages.now c.read_whole.new.messages before after a) (sym e)
    (fails_first g.F.Files g.M.Sink g.B.Bounds.most c.args.files.now c.read_whole.new.files c.args.messages.now c.args.messages.now
    c.read_whole.new.messages before before after begin (constant g.B.Bounds.most) fault c.in_err-read_whole.ensures.called.lost))
    c.in_err-read_whole.ensures.called

pub returns-clause-called : goal.returns-clause-called
returns-clause-called g c =
    let before = c.args.self.now.session in let mid = c.read_whole.new.self.session in
    let after = c.end_constant.new.self.session in let begin = begun_with_rule alone_constant in
    let called = c.in_ok-read_whole.ensures.called in let setup = c.in_ok-read_whole.ensures.stays.setup in
    record {
      answers = answers_then g.F.Files g.M.Sink g.B.Bounds.most c.args.files.now c.read_whole.new.files c.args.messages.now
          c.read_whole.new.messages c.end_constant.new.messages before mid after begin
          (λ sources o turns s. whole_read g.B.Bounds.most sources o turns (begin s)) (λ o _. constant_ended g.B.Bounds.most o)
          c.in_ok-read_whole.field-0 c.end_constant.result setup called.answers c.end_constant.ensures.ended;
      lost = fails_then g.F.Files g.M.Sink g.B.Bounds.most c.args.files.now c.read_whole.new.files c.args.messages.now
          c.read_whole.new.messages c.end_constant.new.messages before mid after begin
          (λ sources o turns s. whole_read g.B.Bounds.most sources o turns (begin s)) (λ o _. constant_ended g.B.Bounds.most o)
          c.in_ok-read_whole.field-0 c.end_constant.result
          (Rose (g.M.Sink.failures c.read_whole.new.messages) (g.M.Sink.failures c.end_constant.new.messages)) setup called.answers
          c.end_constant.ensures.cut c.end_constant.ensures.fault;
      fault = caused_here g.F.Files g.M.Sink c.args.files.now c.read_whole.new.files c.args.messages.now c.read_whole.new.messages
          c.end_constant.new.messages before mid after c.end_constant.result called.adds.0.failures c.end_constant.ensures.fault;
      adds = adds_then g.M.Sink c.args.messages.now c.read_whole.new.messages c.end_constant.new.messages c.end_constant.result called.adds.0
          (called.adds.1.0 refl) c.end_constant.ensures.adds;
      again = λ fault r. absurd (went_on g.F.Files g.M.Sink c.args.files.now c.read_whole.new.files c.args.messages.now
          c.read_whole.new.messages before mid c.in_ok-read_whole.field-0 fault called r);
    }

pub returns-clause-stays : goal.returns-clause-stays
returns-clause-stays g c =
    stays_here g.F.Files c.args.files.now c.read_whole.new.files c.args.self.now.session c.read_whole.new.self.session
    c.end_constant.new.self.session c.in_ok-read_whole.field-0 c.end_constant.result c.in_ok-read_whole.ensures.stays
    c.end_constant.ensures.same.files c.end_constant.ensures.same.setup
