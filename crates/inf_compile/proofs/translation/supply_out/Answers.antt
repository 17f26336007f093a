use Rattle.std.proofs.Common.{◌≡◌, Option, List, ℕ, ap, subst, sym, ◌∙◌}
use Rattle.inf_devices.specs.Files.{Rose}
use Rattle.inf_lexer.proofs.Candidates.{rose_earlier}
use Rattle.inf_compilation.specs.Works.{work as work_of}
use Rattle.inf_session.specs.Choices.{chosen}
use Rattle.inf_ending.specs.{Ending.finished, declared.compiled.Status.Status}
use Rattle.inf_ending.specs.Delivered.{Delivers, EndsCleanOf, SucceedsClean, TakesFront, story_in}
use Rattle.inf_ending.proofs.{Delivering.ends_behind, Delivering.if_ok_more, Quiet.hides_then}
use Rattle.inf_compile.specs.Comes.{BreaksOffAll, EndsAll, SuppliesPart}
use Rattle.inf_compile.proofs.Concluding.{breaks_off_all, breaks_off_part, ends_all, if_memory, memory_any, on_err_leads, supplies_early}
use Rattle.inf_compile.proofs.Telling.{if_caused_more}
use Rattle.inf_compile.proofs.translation.supply_out.Goals as goal

pub returns-in-Ok-clause-ok : goal.returns-in-Ok-clause-ok
returns-in-Ok-clause-ok g c =
    let o = chosen c.args.session.setup in let now = c.supply_all.new.session in
    let old = g.M.Sink.taken c.args.messages.now in let mid = g.M.Sink.taken c.supply_all.new.messages in
    let new = g.M.Sink.taken c.finish.new.messages in
    if_ok_more c.finish.result.1
    (λ x. Delivers (finished g.B.Bounds.most c.args.serial.now now.open_files.nest.names (work_of now.progress.work)) x mid new)
    (λ x. EndsAll g.B.Bounds.most o c.args.serial.now c.args.session x old new)
    (λ x d. ends_all g.B.Bounds.most o c.args.serial.now c.args.session now old mid new x c.in-Ok.ensures.supplied d) c.finish.ensures.ok

pub returns-in-Ok-clause-err : goal.returns-in-Ok-clause-err
returns-in-Ok-clause-err g c =
    let o = chosen c.args.session.setup in let now = c.supply_all.new.session in
    let old = g.M.Sink.taken c.args.messages.now in let mid = g.M.Sink.taken c.supply_all.new.messages in
    let new = g.M.Sink.taken c.finish.new.messages in
    on_err_leads c.finish.result.1
    (TakesFront (finished g.B.Bounds.most c.args.serial.now now.open_files.nest.names (work_of now.progress.work)).messages mid new)
    (BreaksOffAll g.B.Bounds.most o c.args.serial.now c.args.session old new)
    (λ t. breaks_off_all g.B.Bounds.most o c.args.serial.now c.args.session now old mid new c.in-Ok.ensures.supplied t) c.finish.ensures.err

pub returns-in-Err-clause-err : goal.returns-in-Err-clause-err
returns-in-Err-clause-err g c =
    breaks_off_part g.B.Bounds.most (chosen c.args.session.setup) c.args.serial.now c.args.session (g.M.Sink.taken c.args.messages.now)
    (g.M.Sink.taken c.supply_all.new.messages) c.in-Err.ensures.cut

pub returns-in-Ok-clause-clean : goal.returns-in-Ok-clause-clean
returns-in-Ok-clause-clean g c =
    let m = g.M.Sink in let old = c.args.messages.now in let mid = c.supply_all.new.messages in
    let new = c.finish.new.messages in let now = c.supply_all.new.session in let serial = c.args.serial.now in
    if_ok_more c.finish.result.1 (λ x. x.status ≡ Status.Success → EndsCleanOf g.B.Bounds.most serial now.open_files.nest.names
    (work_of now.progress.work) (story_in x) (m.taken mid) (m.taken new)) (λ x. SucceedsClean serial x (m.taken old) (m.taken new))
    (λ x p is. ends_behind m old mid new serial (story_in x) c.supply_all.ensures.called.wrote.appends
    (record { limits = g.B.Bounds.most; files = now.open_files.nest.names; work = work_of now.progress.work; clean = p is }))
    c.finish.ensures.clean

pub returns-in-Ok-clause-quiet : goal.returns-in-Ok-clause-quiet
returns-in-Ok-clause-quiet g c =
    let m = g.M.Sink in
    hides_then c.finish.result.1 (m.failures c.args.messages.now) (m.failures c.supply_all.new.messages) (m.failures c.finish.new.messages)
    c.in-Ok.ensures.called.wrote.quiet c.finish.ensures.wrote.1

pub returns-in-Ok-clause-early : goal.returns-in-Ok-clause-early
returns-in-Ok-clause-early g c =
    let m = g.M.Sink in let o = chosen c.args.session.setup in let old = m.taken c.args.messages.now in
    let mid = m.taken c.supply_all.new.messages in let new = m.taken c.finish.new.messages in
    if_memory c.finish.result.1 (SuppliesPart g.B.Bounds.most o c.args.session old new)
    (λ is. subst (λ (x : Option (List ℕ)). SuppliesPart g.B.Bounds.most o c.args.session old x)
    (sym (ap m.taken (c.finish.ensures.memory is)))
    (supplies_early g.B.Bounds.most o c.args.session c.supply_all.new.session old mid c.in-Ok.ensures.supplied))

pub returns-in-Err-clause-early : goal.returns-in-Err-clause-early
returns-in-Err-clause-early g c =
    let m = g.M.Sink in
    memory_any c.in-Err.fault (SuppliesPart g.B.Bounds.most (chosen c.args.session.setup) c.args.session (m.taken c.args.messages.now)
    (m.taken c.supply_all.new.messages)) c.in-Err.ensures.cut

pub returns-in-Ok-clause-files : goal.returns-in-Ok-clause-files
returns-in-Ok-clause-files g c = c.finish.ensures.files ∙ c.supply_all.ensures.called.files

pub returns-in-Ok-clause-fault : goal.returns-in-Ok-clause-fault
returns-in-Ok-clause-fault g c =
    let m = g.M.Sink in let old = m.failures c.args.messages.now in let mid = m.failures c.supply_all.new.messages in
    let new = m.failures c.finish.new.messages in
    if_caused_more c.finish.result.1 (λ name. ⊥) (λ name. ⊥) (Rose mid new) (Rose old new) (λ name never. never)
    (λ r. rose_earlier old mid new c.supply_all.ensures.called.wrote.appends.failures r) c.finish.ensures.fault

pub returns-in-Err-clause-files : goal.returns-in-Err-clause-files
returns-in-Err-clause-files g c = c.supply_all.ensures.called.files

pub returns-in-Err-clause-fault : goal.returns-in-Err-clause-fault
returns-in-Err-clause-fault g c = c.in-Err.ensures.called.cause

pub returns-in-Err-clause-quiet : goal.returns-in-Err-clause-quiet
returns-in-Err-clause-quiet g c = (tt, c.in-Err.ensures.called.wrote.quiet)
