use Rattle.std.proofs.Common.{◌≡◌}
use Rattle.inf_settings.specs.Bounds.{Limits}
use Rattle.inf_output.specs.Output.{Out}
use Rattle.inf_templates.specs.{Meaning.parts, Parts.evaluated, Tasks.at, Weights.load_at}
use Rattle.inf_templates.proofs.parts.are_simple.Given as goal

abbrev pub invariant-loop-a : goal.invariant-loop-a
invariant-loop-a l =
    (limits : Limits) → (o : Out) → evaluated (parts (at limits l.nodes l.list)) o ≡ evaluated (parts (at limits l.nodes l.left)) o

abbrev pub decreases-loop-a : goal.decreases-loop-a
decreases-loop-a l = load_at l.nodes l.left
