-- The operands that were found are the front of all.
use Rattle.std.proofs.Common.{ap, arith}
use Rattle.inf_templates.specs.Parts.{operands}
use Rattle.inf_templates.proofs.Cuts.{front, whole}
use Rattle.inf_templates.proofs.working.with_list.Goals as goal

pub returns-in-None-clause-value : goal.returns-in-None-clause-value
returns-in-None-clause-value c = λ limits.
    whole c.args.most _ _ _ _ _ (c.loop.invariant.0 limits) (ap operands (c.in-None.ensures.code limits))
    (rw (c.operand_of-in-None.ensures limits) at c.push-in-None.ensures.items) (omega arith)

pub returns-clause-value : goal.returns-clause-value
returns-clause-value c = λ limits. front c.args.most _ _ _ (c.loop.invariant.0 limits) (omega arith)
