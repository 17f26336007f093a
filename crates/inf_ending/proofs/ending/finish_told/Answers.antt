use Rattle.std.proofs.Common.{◌≡◌, IfOk, subst, ap, ◌∙◌}
use Rattle.inf_compilation.specs.Works.{work as work_of}
use Rattle.inf_unit.specs.Names.{main_of}
use Rattle.inf_ending.specs.Ending.{begun, seen, told_of}
use Rattle.inf_ending.proofs.ending.finish_told.Goals as goal

-- src/ending.rt:87:1
pub returns : goal.returns
returns g c = subst
    (λ main. IfOk c.finish_at.result (λ t. seen t ≡ begun (told_of c.args.serial.now (work_of c.args.work)) c.args.files.now.names
    c.args.work.output c.args.work.report main))
    (c.main_of-main.ensures ∙ ap (λ w. main_of w.output.names) c.work.view_is) c.finish_at.ensures
