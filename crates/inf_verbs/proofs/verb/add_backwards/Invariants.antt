use Rattle.std.proofs.Common.{◌≡◌, ◌++◌, reverse, length}
use Rattle.inf_verbs.specs.Lines.{lines_cells}
use Rattle.inf_verbs.proofs.verb.add_backwards.Given as goal

abbrev pub invariant-loop-last : goal.invariant-loop-last
invariant-loop-last l = l.cells ++ lines_cells (reverse l.left) ≡ l.initial.cells ++ lines_cells (reverse l.lines)

abbrev pub decreases-loop-last : goal.decreases-loop-last
decreases-loop-last l = length l.left
