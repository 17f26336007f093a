use Rattle.std.proofs.Common.{◌≡◌}
use Rattle.inf_verb_lines.specs.Verbs.{arrow_before}
use Rattle.inf_verb_lines.proofs.lines.arrow_in.Given as goal

-- the arrow is the last one before this place
abbrev pub invariant-loop-at : goal.invariant-loop-at
invariant-loop-at l = l.arrow ≡ arrow_before l.at l.tokens
