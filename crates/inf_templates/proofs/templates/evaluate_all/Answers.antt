-- The last part is worked out first.
use Rattle.std.proofs.Common.{◌∙◌, ap, sym}
use Rattle.inf_templates.specs.{Parts.evaluated, Tasks.parts_of}
use Rattle.inf_templates.proofs.Given.{evaluated_last}
use Rattle.inf_templates.proofs.templates.evaluate_all.Goals as goal

pub loop-last-preserved : goal.loop-last-preserved
loop-last-preserved g c = ap (evaluated (parts_of g.B.Bounds.most c.args.nodes.now c.in-Some.others.now)) c.in_ok-work_out.ensures
    ∙ sym (evaluated_last g.B.Bounds.most c.args.nodes.now c.loop-last.left.now c.in-Some.others.now c.in-Some.last.now c.loop-last.out
    c.in-Some.ensures.cases.0) ∙ c.loop-last.invariant
