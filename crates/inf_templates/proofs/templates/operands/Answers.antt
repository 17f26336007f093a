-- The operands of the first parts are the first operands.
use Rattle.std.proofs.Common.{◌∙◌, ap, arith}
use Rattle.inf_templates.specs.{Parts.operands, Tasks.parts_of}
use Rattle.inf_templates.proofs.Given.{all_found, operands_front}
use Rattle.inf_templates.proofs.templates.operands.Goals as goal

pub returns : goal.returns
returns g c =
    all_found g.B.Bounds.most c.args.nodes.now c.loop-argument.operands.items c.cut-argument-items.result.now c.loop-argument.argument-index
    c.loop-argument.invariant.0 (omega (arith, c.loop-argument-test.false))
    ∙ ap (λ gs. operands (parts_of g.B.Bounds.most c.args.nodes.now gs)) c.cut-argument-items.ensures.value
    ∙ operands_front g.B.Bounds.most c.args.nodes.now c.args.most c.args.arguments.now
