use Rattle.std.proofs.Common.{◌≡◌, ◌++◌, drop}
use Rattle.inf_verbs.specs.Lines.{lines_cells}
use Rattle.inf_verbs.proofs.verb.add_lines.Given as goal

abbrev pub invariant-loop-line : goal.invariant-loop-line
invariant-loop-line l = l.cells ++ lines_cells (drop l.line-index l.lines) ≡ l.initial.cells ++ lines_cells l.lines
