use Rattle.std.proofs.Common.{◌≡◌}
use Rattle.inf_expressions.specs.Units.{listed}
use Rattle.inf_expressions.proofs.trees.Gathered.list.Given as goal

abbrev pub invariant-loop : goal.invariant-loop
invariant-loop l = l.self ≡ listed l.unit l.counter l.initial.self
