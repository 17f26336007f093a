use Rattle.std.proofs.Common.{◌≡◌, OnOk, Option, ap, subst, ◌∙◌}
use Rattle.inf_arrays.specs.Arrays.{Adding}
use Rattle.inf_compilation.specs.{Context.handed, Works.work}
use Rattle.inf_expressions.specs.declared.findings.Finding.{Finding}
use Rattle.inf_declarations.specs.Arrays.{added_finding, entry_finding, entry_with, one_more}
use Rattle.inf_declarations.proofs.Numbers.{number_adds, number_found}
use Rattle.inf_declarations.proofs.arrays.judge_number.Goals as goal

pub end_several-requires : goal.end_several-requires
end_several-requires g c = number_adds g.B.Bounds.most (handed c.args.context.now) c.args.is_alone c.args.number (work c.args.compilation.now)
    c.requires

pub returns : goal.returns
returns g c =
    let limits = g.B.Bounds.most in let context = handed c.args.context.now in let w = work c.args.compilation.now in
    let found : c.added_finding-found.result ≡ entry_finding limits context c.args.is_alone w =
    c.added_finding-found.ensures ∙ ap (λ (a : Adding). added_finding limits a w) c.adding.ensures
    ∙ number_found limits context c.args.is_alone c.args.number w c.requires in
    subst (λ e. OnOk c.end_several.result (work c.end_several.new.compilation ≡ e))
    (ap (λ (f : Option Finding). entry_with limits context c.args.first c.args.is_alone f (one_more w)) found) c.end_several.ensures
