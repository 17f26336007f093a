use Rattle.std.proofs.Common.{◌≡◌, false, cond, rules, IfOk, ap, subst, sym, ◌∙◌}
use Rattle.inf_compilation.specs.Works.{work as work_of}
use Rattle.inf_ending.specs.Ending.{begun_from, is_clean, laid, refused, seen, told_of}
use Rattle.inf_ending.proofs.ending.finish_from.Goals as goal

pub returns-then-not-is_clean : goal.returns-then-not-is_clean
returns-then-not-is_clean g c =
    let report = c.args.work.report in let t = told_of c.args.serial.now (work_of c.args.work) in
    let files = c.args.files.now.names in let is : is_clean report ≡ false = search rules in
    let comes : refused c.report_of.result ≡ begun_from t files c.args.main c.args.work.output report = ap refused c.report_of.ensures
    ∙ ap (λ b. cond b (laid t files c.args.main c.args.work.output report) (refused report)) (sym is) in
    subst (λ o. IfOk c.refused.result (λ e. seen e ≡ o)) comes c.refused.ensures
