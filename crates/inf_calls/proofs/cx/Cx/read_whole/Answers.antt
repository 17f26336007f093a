use Rattle.std.proofs.Common.{rules, ◌≡◌, Bool, true, false, Result, Ok, Err, is_none, refl, sym, ap, subst}
use Rattle.std.specs.Bool.{⊤}
use Rattle.inf_session.specs.Standing.{state}
use Rattle.inf_calls.specs.Calls.{begun_with_rule, part_read, whole, whole_read}
use Rattle.inf_calls.specs.declared.faults.UnitFault.{UnitFault}
use Rattle.inf_calls.specs.Answers.{ReadFails, Reads}
use Rattle.inf_calls.proofs.Calling.{waits, waits_not}
use Rattle.inf_calls.proofs.{Called.called_failed, Called.called_told, Joining.reads_at, Joining.reads_failed}
use Rattle.inf_calls.proofs.cx.Cx.read_whole.Goals as goal

pub returns-in_err-read_text-clause-called : goal.returns-in_err-read_text-clause-called
returns-in_err-read_text-clause-called g c =
    let before = c.args.self.now.session in let after = c.read_text.new.self.session in
    let begin = begun_with_rule c.args.rule in let fault = c.in_err-read_text.field-0.0 in
    let e : c.from_residual.result ≡ Err fault = search rules in
    called_failed g.F.Files g.M.Sink c.args.files.now c.read_text.new.files c.args.messages.now c.read_text.new.messages before after fault
    c.from_residual.result e (subst (λ (a : Result ⊤ UnitFault). Reads g.F.Files g.M.Sink g.B.Bounds.most begin
    (λ sources o turns s. whole_read g.B.Bounds.most sources o turns (begin s)) c.args.files.now c.read_text.new.files c.args.messages.now
    c.read_text.new.messages before after a) (sym e)
    (reads_failed g.F.Files g.M.Sink g.B.Bounds.most c.args.files.now c.read_text.new.files c.args.messages.now c.args.messages.now
    c.read_text.new.messages before before after begin (λ sources o turns s. part_read g.B.Bounds.most sources o turns (begin s)) whole
    fault c.in_err-read_text.ensures.called.answers))
    (subst (λ (a : Result ⊤ UnitFault). ReadFails g.F.Files g.M.Sink g.B.Bounds.most begin c.args.files.now c.read_text.new.files
    c.args.messages.now c.read_text.new.messages before after a) (sym e) c.in_err-read_text.ensures.called.lost)
    c.in_err-read_text.ensures.called

pub returns-then-is_none-clause-called : goal.returns-then-is_none-clause-called
returns-then-is_none-clause-called g c =
    let before = c.args.self.now.session in let after = c.read_text.new.self.session in
    let begin = begun_with_rule c.args.rule in let none : is_none after.progress.work.unit.held ≡ true = search rules in
    called_told g.F.Files g.M.Sink c.args.files.now c.read_text.new.files c.args.messages.now c.read_text.new.messages before after
    c.in_ok-read_text.field-0 (Err UnitFault.Syntax) refl
    (reads_at g.F.Files g.M.Sink g.B.Bounds.most c.args.files.now c.read_text.new.files c.args.messages.now c.args.messages.now
    c.read_text.new.messages before before after begin (λ sources o turns s. part_read g.B.Bounds.most sources o turns (begin s)) whole
    c.in_ok-read_text.field-0 (Err UnitFault.Syntax)
    (λ sources start now told. ap (λ (a : Result ⊤ UnitFault). (state sources start now after told, a))
    (waits_not after.progress.work.unit.held none))
    c.in_ok-read_text.ensures.called.answers) (λ going honest start nested. tt) c.in_ok-read_text.ensures.called

pub returns-clause-called : goal.returns-clause-called
returns-clause-called g c =
    let before = c.args.self.now.session in let after = c.read_text.new.self.session in
    let begin = begun_with_rule c.args.rule in
    let none : is_none after.progress.work.unit.held ≡ false = search rules in
    called_told g.F.Files g.M.Sink c.args.files.now c.read_text.new.files c.args.messages.now c.read_text.new.messages before after
    c.in_ok-read_text.field-0 (Ok tt) refl
    (reads_at g.F.Files g.M.Sink g.B.Bounds.most c.args.files.now c.read_text.new.files c.args.messages.now c.args.messages.now
    c.read_text.new.messages before before after begin (λ sources o turns s. part_read g.B.Bounds.most sources o turns (begin s)) whole
    c.in_ok-read_text.field-0 (Ok tt) (λ sources start now told. ap (λ (a : Result ⊤ UnitFault). (state sources start now after told, a))
    (waits after.progress.work.unit.held none))
    c.in_ok-read_text.ensures.called.answers) (λ going honest start nested. tt) c.in_ok-read_text.ensures.called
