use Rattle.std.proofs.Common.{◌≡◌}
use Rattle.inf_templates.specs.{Tasks.tasks_code, Weights.weights}
use Rattle.inf_templates.proofs.laying.lay_all.Given as goal

-- the tasks that are left lead from the output so far to the output of all
abbrev pub invariant-loop-task : goal.invariant-loop-task
invariant-loop-task g l =
    tasks_code g.B.Bounds.most l.nodes l.tasks l.out ≡ tasks_code g.B.Bounds.most l.nodes l.initial.tasks l.initial.out

abbrev pub decreases-loop-task : goal.decreases-loop-task
decreases-loop-task g l = weights l.nodes l.tasks
