use Rattle.std.proofs.Common.{◌≡◌, ◌+◌, ◌≤◌}
use Rattle.inf_settings.specs.Bounds.{Limits}
use Rattle.inf_output.specs.Output.{Out}
use Rattle.inf_templates.specs.{Meaning.parts, Parts.evaluated, Tasks.at, Tasks.tasks_code, Weights.load_at, Weights.weights}
use Rattle.inf_templates.proofs.parts.members.Given as goal

-- the tasks so far, behind the members that are left, lay all members and then the tasks of the start
abbrev pub invariant-loop-a : goal.invariant-loop-a
invariant-loop-a l = ((limits : Limits) → (o : Out) → tasks_code limits l.nodes l.tasks (evaluated (parts (at limits l.nodes l.left)) o)
    ≡ tasks_code limits l.nodes l.initial.tasks (evaluated (parts (at limits l.nodes l.list)) o))
    × (weights l.nodes l.tasks + load_at l.nodes l.left ≤ load_at l.nodes l.list + weights l.nodes l.initial.tasks)

abbrev pub decreases-loop-a : goal.decreases-loop-a
decreases-loop-a l = load_at l.nodes l.left
