use Rattle.std.proofs.Common.{◌≡◌}
use Rattle.inf_verb_lines.specs.Verbs.{texts_before}
use Rattle.inf_verb_lines.proofs.verbs.texts_before.Given as goal

-- the texts so far are those before this place
abbrev pub invariant-loop-at : goal.invariant-loop-at
invariant-loop-at l = l.texts.items ≡ texts_before l.at l.tokens
