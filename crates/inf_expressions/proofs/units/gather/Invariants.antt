use Rattle.std.proofs.Common.{◌≡◌, drop}
use Rattle.inf_expressions.specs.Units.{gathered, nothing_gathered}
use Rattle.inf_expressions.proofs.units.gather.Given as goal

abbrev pub invariant-loop-symbol : goal.invariant-loop-symbol
invariant-loop-symbol l =
    gathered l.wanted l.unit l.operands (drop l.symbol-index l.symbols) l.gathered ≡ gathered l.wanted l.unit l.operands l.symbols
    nothing_gathered
