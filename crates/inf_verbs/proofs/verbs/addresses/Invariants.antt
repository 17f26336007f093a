use Rattle.std.proofs.Common.{◌≡◌}
use Rattle.inf_verbs.specs.Verbs.{address_cells}
use Rattle.inf_verbs.proofs.verbs.addresses.Given as goal

abbrev pub invariant-loop-number : goal.invariant-loop-number
invariant-loop-number l = l.cells ≡ address_cells l.number
