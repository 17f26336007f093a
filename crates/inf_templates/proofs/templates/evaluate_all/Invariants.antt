use Rattle.std.proofs.Common.{◌≡◌, length}
use Rattle.inf_templates.specs.{Parts.evaluated, Tasks.parts_of}
use Rattle.inf_templates.proofs.templates.evaluate_all.Given as goal

-- the arguments that are left lead from the output so far to the output of all
abbrev pub invariant-loop-last : goal.invariant-loop-last
invariant-loop-last g l =
    evaluated (parts_of g.B.Bounds.most l.nodes l.left) l.out ≡ evaluated (parts_of g.B.Bounds.most l.nodes l.fn.arguments) l.initial.out

abbrev pub decreases-loop-last : goal.decreases-loop-last
decreases-loop-last g l = length l.left
