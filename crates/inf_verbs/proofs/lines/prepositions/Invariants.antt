use Rattle.std.proofs.Common.{◌≡◌, ◌+◌, ◌≤◌, drop}
use Rattle.inf_verbs.specs.Lines.{prepositions}
use Rattle.inf_verbs.proofs.lines.prepositions.Given as goal

abbrev pub invariant-loop-token : goal.invariant-loop-token
invariant-loop-token l = (l.count + prepositions (drop l.token-index l.tokens) ≡ prepositions l.tokens) × (l.count ≤ l.token-index)
