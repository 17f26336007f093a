use Rattle.std.proofs.Common.{◌≡◌, IfOk, OnErr, ap, subst}
use Rattle.inf_unit.specs.Messages.{FileNames}
use Rattle.inf_compilation.specs.Works.{work as work_of}
use Rattle.inf_ending.specs.{Ending.finished, declared.compiled.Status.Status}
use Rattle.inf_ending.specs.Delivered.{Delivers, EndsCleanOf, TakesFront, story_in}
use Rattle.inf_session.proofs.session.Session.finish.Goals as goal

pub returns-clause-ok : goal.returns-clause-ok
returns-clause-ok g c =
    let old = g.M.Sink.taken c.args.messages.now in let new = g.M.Sink.taken c.conclude-compiled.new.messages in
    subst (λ (n : FileNames). IfOk c.conclude-compiled.result
    (λ compiled. Delivers (finished g.B.Bounds.most c.args.serial.now n (work_of c.args.self.progress.work)) compiled old new))
    (ap (λ s. s.names) c.names.ensures) c.conclude-compiled.ensures.ok

pub returns-clause-clean : goal.returns-clause-clean
returns-clause-clean g c =
    let old = g.M.Sink.taken c.args.messages.now in let new = g.M.Sink.taken c.conclude-compiled.new.messages in
    subst (λ (n : FileNames). IfOk c.conclude-compiled.result (λ compiled. compiled.status ≡ Status.Success →
    EndsCleanOf g.B.Bounds.most c.args.serial.now n (work_of c.args.self.progress.work) (story_in compiled) old new))
    (ap (λ s. s.names) c.names.ensures) c.conclude-compiled.ensures.clean

pub returns-clause-err : goal.returns-clause-err
returns-clause-err g c =
    let old = g.M.Sink.taken c.args.messages.now in let new = g.M.Sink.taken c.conclude-compiled.new.messages in
    subst (λ (n : FileNames). OnErr c.conclude-compiled.result
    (TakesFront (finished g.B.Bounds.most c.args.serial.now n (work_of c.args.self.progress.work)).messages old new))
    (ap (λ s. s.names) c.names.ensures) c.conclude-compiled.ensures.err
