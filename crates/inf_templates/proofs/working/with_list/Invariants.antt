use Rattle.std.proofs.Common.{◌≡◌, ◌++◌, length}
use Rattle.inf_settings.specs.Bounds.{Limits}
use Rattle.inf_templates.specs.{Meaning.parts, Parts.operands, Tasks.at}
use Rattle.inf_templates.proofs.working.with_list.Given as goal

abbrev pub invariant-loop : goal.invariant-loop
invariant-loop l = ((limits : Limits) → l.operands.items ++ operands (parts (at limits l.nodes l.left)) ≡ l.fn.front.items ++ operands
    (parts (at limits l.nodes l.list))) × (length l.operands.items ≡ l.counter)
