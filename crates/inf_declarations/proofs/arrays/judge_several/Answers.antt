use Rattle.std.proofs.Common.{◌≡◌, OnOk, ap, subst, ◌∙◌}
use Rattle.inf_compilation.specs.{Context.handed, Works.work}
use Rattle.inf_declarations.specs.Arrays.{entry_finding, entry_judged, entry_with, one_more}
use Rattle.inf_declarations.proofs.Staying.{more_found}
use Rattle.inf_declarations.proofs.arrays.judge_several.Goals as goal

pub returns : goal.returns
returns g c =
    let limits = g.B.Bounds.most in let context = handed c.args.context.now in let w = work c.args.compilation.now in
    let looked = work c.look_several.new.compilation in
    let same : entry_with limits context c.args.first c.args.is_alone c.in_ok-found.found looked
    ≡ entry_judged limits context c.args.first c.args.is_alone w =
    ap (λ f. entry_with limits context c.args.first c.args.is_alone f looked) (c.in_ok-found.ensures.finding context)
    ∙ ap (λ v. entry_with limits context c.args.first c.args.is_alone (entry_finding limits context c.args.is_alone (one_more w)) v)
    c.in_ok-found.ensures.unchanged ∙ ap (λ f. entry_with limits context c.args.first c.args.is_alone f (one_more w))
    (more_found limits context c.args.is_alone w c.requires) in
    subst (λ e. OnOk c.end_several.result (work c.end_several.new.compilation ≡ e)) same c.end_several.ensures
