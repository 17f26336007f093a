use Rattle.std.proofs.Common.{◌≡◌, ◌++◌, drop}
use Rattle.inf_verbs.specs.Lines.{tokens_cells}
use Rattle.inf_verbs.proofs.lines.add_tokens.Given as goal

abbrev pub invariant-loop-token : goal.invariant-loop-token
invariant-loop-token l = l.cells ++ tokens_cells (drop l.token-index l.tokens) ≡ l.initial.cells ++ tokens_cells l.tokens
