use Rattle.std.proofs.Common.{◌≡◌, subst, sym, ap, ◌∙◌}
use Rattle.inf_compilation.specs.{Actions.finding_at, Actions.operands_of, Actions.trees_at, Context.handed, Works.work}
use Rattle.inf_expressions.specs.{Findings.least_of_both, Forests.trees_in as rooted_in}
use Rattle.inf_parts.specs.Parts.{order_of, own_finding, wanted_of}
use Rattle.inf_parts.proofs.Noting.{own_noted, trees_noted}
use Rattle.inf_parts.proofs.parts.found_in.Goals as goal

-- src/parts.rt:292:13
pub own_finding-own-requires-clause-trees : goal.own_finding-own-requires-clause-trees
own_finding-own-requires-clause-trees g c =
    subst (λ w. rooted_in c.in_ok-finding.looked.forest ≡ trees_at (order_of c.args.part w) (wanted_of c.args.part) (operands_of w) w)
    (sym c.in_ok-finding.ensures.noted)
    (trees_noted c.args.part (work c.args.compilation.now) (rooted_in c.in_ok-finding.looked.forest) c.in_ok-finding.ensures.trees)

-- src/parts.rt:278:5
pub returns-clause-finding : goal.returns-clause-finding
returns-clause-finding g c =
    let w = work c.args.compilation.now in
    c.least_of_both-least.ensures ∙ ap (λ f. least_of_both f c.own_finding-own.result) c.in_ok-finding.ensures.finding
    ∙ ap (λ f. least_of_both (finding_at (order_of c.args.part w) (wanted_of c.args.part) w) f)
    (c.own_finding-own.ensures ∙ ap (own_finding g.B.Bounds.most (handed c.args.context.now) c.args.part) c.in_ok-finding.ensures.noted
    ∙ own_noted g.B.Bounds.most (handed c.args.context.now) c.args.part w)
