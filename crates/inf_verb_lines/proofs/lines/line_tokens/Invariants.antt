use Rattle.std.proofs.Common.{◌≡◌}
use Rattle.inf_verb_lines.specs.Verbs.{line_tokens}
use Rattle.inf_verb_lines.proofs.lines.line_tokens.Given as goal

-- the tokens so far are those before this place
abbrev pub invariant-loop-at : goal.invariant-loop-at
invariant-loop-at g l = (l.out, l.line.items) ≡ line_tokens g.B.Bounds.most l.at l.tokens l.fn.out
