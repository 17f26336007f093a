use Rattle.std.proofs.Common.{◌≡◌, ◌+◌, ◌≤◌, ◌-◌, ◌++◌, length, map, drop}
use Rattle.inf_output.specs.Operands.{written}
use Rattle.inf_output.proofs.operands.add_written.Given as goal

-- what is there, with what is left, is all
abbrev pub invariant-loop-operand : goal.invariant-loop-operand
invariant-loop-operand l = (l.all.items ++ map written (drop l.operand-index l.operands) ≡ l.initial.all.items ++ map written l.operands)
    × (length l.all.items + (length l.operands - l.operand-index) ≤ 8)
