use Rattle.std.proofs.Common.{◌≡◌, drop}
use Rattle.inf_grammar.specs.Tables.{found}
use Rattle.inf_grammar.proofs.rules.found.Given as goal

abbrev pub invariant-loop-row : goal.invariant-loop-row
invariant-loop-row l = found l.atom l.other l.rows ≡ found l.atom l.other (drop l.row-index l.rows)
