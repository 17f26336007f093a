use Rattle.std.proofs.Common.{◌≡◌, ◌+◌, length}
use Rattle.inf_settings.specs.Bounds.{Limits}
use Rattle.inf_templates.specs.{Meaning.parts, Tasks.at}
use Rattle.inf_templates.proofs.reading.has_more.Given as goal

abbrev pub invariant-loop : goal.invariant-loop
invariant-loop l = (limits : Limits) → l.counter + length (parts (at limits l.nodes l.left)) ≡ length (parts (at limits l.nodes l.list))
