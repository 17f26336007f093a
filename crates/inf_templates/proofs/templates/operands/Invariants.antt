use Rattle.std.proofs.Common.{◌≡◌, ◌+◌, ◌-◌, ◌≤◌, ◌++◌, length, drop}
use Rattle.inf_templates.specs.{Parts.operands, Tasks.parts_of}
use Rattle.inf_templates.proofs.templates.operands.Given as goal

-- the operands so far, with those of the arguments that are left, are those of all arguments
abbrev pub invariant-loop-argument : goal.invariant-loop-argument
invariant-loop-argument g l =
    (l.operands.items ++ operands (parts_of g.B.Bounds.most l.nodes (drop l.argument-index l.argument-items)) ≡ operands
    (parts_of g.B.Bounds.most l.nodes l.argument-items)) × (length l.operands.items + (length l.argument-items - l.argument-index) ≤ 8)
