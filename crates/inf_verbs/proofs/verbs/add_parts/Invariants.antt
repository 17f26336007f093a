use Rattle.std.proofs.Common.{◌≡◌, ◌++◌, drop}
use Rattle.inf_verbs.specs.Verbs.{parts_cells}
use Rattle.inf_verbs.proofs.verbs.add_parts.Given as goal

abbrev pub invariant-loop-verb : goal.invariant-loop-verb
invariant-loop-verb l = l.cells ++ parts_cells (drop l.verb-index l.verbs) ≡ l.initial.cells ++ parts_cells l.verbs
