use Rattle.std.proofs.Common.{◌≡◌}
use Rattle.inf_verb_lines.specs.Verbs.{tokens_finding}
use Rattle.inf_verb_lines.proofs.lines.tokens_finding.Given as goal

-- the finding so far is the least of those about the tokens before this place
abbrev pub invariant-loop-at : goal.invariant-loop-at
invariant-loop-at g l = l.found ≡ tokens_finding l.at l.tokens l.names
