use Rattle.std.proofs.Common.{map, ap, lit<, ◌∙◌}
use Rattle.std.proofs.lemmas.Result.{IfOk-weaker}
use Rattle.inf_command.proofs.Cutting.{run_cut}
use Rattle.inf_command.proofs.directories.parts_of.Goals as goal

pub returns : goal.returns
returns c = IfOk-weaker c.collect.result _ _ (λ parts whole.
    let run = whole tt in let cut = c.split.ensures.runs run.0 run.0.seen run.1 in
    let at_commas = cut.2 (lit< tt) ((λ q same. same), (λ w o found. found)) in
    ap (map (λ part. part.now)) run.3.0 ∙ run_cut run.0 c.args.path.now (cut.0 run.2) (at_commas.0.2 run.2) at_commas.1.0)
    c.collect.ensures.runs
