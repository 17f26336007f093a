use Rattle.std.proofs.Common.{◌≡◌, IfErr, IfOk, IsErrOf, None, Result, Ok, Err, subst}
use Rattle.inf_opcode.proofs.Growing.{on_err}
use Rattle.inf_compilation.specs.Works.{work as work_of}
use Rattle.inf_ending.specs.{Ending.Outcome, Ending.finished, declared.compiled.Status.Status, declared.faults.Fault.Fault}
use Rattle.inf_ending.specs.Delivered.{Delivers, EndsCleanOf, story_in}
use Rattle.inf_ending.proofs.{Endings.errors_none, Quiet.hides_none}
use Rattle.inf_ending.proofs.Delivering.{appends_none, ends_clean, has_none, if_ok_more, takes_no_front}
use Rattle.inf_ending.proofs.compiled.conclude.Goals as goal

-- where messages are the only fault, want of memory is none
never_memory : {A : Type 0} (r : Result A Fault) → IfErr r (λ f. f ≡ Fault.Messages) → IsErrOf r Fault.Memory → ⊥
never_memory (Ok x) only is = cc
never_memory (Err f) only is = cc

pub returns-clause-memory : goal.returns-clause-memory
returns-clause-memory g c = λ memory. absurd (never_memory c.written.result c.written.ensures.only memory)

pub returns-in_err-ending-clause-err : goal.returns-in_err-ending-clause-err
returns-in_err-ending-clause-err g c = on_err c.from_residual.result (takes_no_front _ (g.M.Sink.taken c.args.messages.now))

pub returns-clause-clean : goal.returns-clause-clean
returns-clause-clean g c =
    let old = g.M.Sink.taken c.args.messages.now in let new = g.M.Sink.taken c.written.new.messages in
    let names = c.args.names.now.names in let serial = c.args.serial.now in
    let e = finished g.B.Bounds.most serial names (work_of c.args.work) in
    if_ok_more c.written.result (λ x. Delivers e x old new)
    (λ x. x.status ≡ Status.Success → EndsCleanOf g.B.Bounds.most serial names (work_of c.args.work) (story_in x) old new)
    (λ x d. ends_clean g.B.Bounds.most serial names (work_of c.args.work) x old new d)
    (subst (λ (t : Outcome). IfOk c.written.result (λ x. Delivers t x old new)) c.in_ok-ending.ensures c.written.ensures.ok)

pub returns-clause-errors : goal.returns-clause-errors
returns-clause-errors g c =
    let old = g.M.Sink.taken c.args.messages.now in let new = g.M.Sink.taken c.written.new.messages in
    let names = c.args.names.now.names in let serial = c.args.serial.now in
    let e = finished g.B.Bounds.most serial names (work_of c.args.work) in
    if_ok_more c.written.result (λ x. Delivers e x old new) (λ x. x.status ≡ Status.Errors → x.story ≡ None)
    (λ x d. has_none e x old new (errors_none g.B.Bounds.most serial names (work_of c.args.work)) d)
    (subst (λ (t : Outcome). IfOk c.written.result (λ x. Delivers t x old new)) c.in_ok-ending.ensures c.written.ensures.ok)

pub returns-in_err-ending-clause-wrote : goal.returns-in_err-ending-clause-wrote
returns-in_err-ending-clause-wrote g c =
    (appends_none g.M.Sink c.args.messages.now, hides_none c.from_residual.result (g.M.Sink.failures c.args.messages.now))
