use Rattle.std.proofs.Common.{◌≡◌, ℕ, IfOk, Option, subst, sym}
use Rattle.inf_report.specs.Messages.{NoMain}
use Rattle.inf_unit.specs.Messages.{Reported, with_error}
use Rattle.inf_compilation.specs.Works.{work as work_of}
use Rattle.inf_ending.specs.Ending.{begun, first_line, refused, seen, told_of}
use Rattle.inf_ending.proofs.ending.finish_at.Goals as goal

pub returns-in-None : goal.returns-in-None
returns-in-None g c =
    let a = c.args in let line = first_line a.files.now.names in
    let told = subst (λ (r : Reported). IfOk c.failed.result (λ t. seen t ≡ refused (with_error line line NoMain r)))
    c.report_of.ensures c.failed.ensures in
    let telling = told_of a.serial.now (work_of a.work) in
    subst (λ (m : Option ℕ). IfOk c.failed.result (λ t. seen t ≡ begun telling a.files.now.names a.work.output a.work.report m))
    (sym c.in-None.is) told
