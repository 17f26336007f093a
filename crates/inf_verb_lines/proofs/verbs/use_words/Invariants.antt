use Rattle.std.proofs.Common.{◌≡◌}
use Rattle.inf_verb_lines.specs.Verbs.{words_used}
use Rattle.inf_verb_lines.proofs.verbs.use_words.Given as goal

-- the words before this place are used
abbrev pub invariant-loop-at : goal.invariant-loop-at
invariant-loop-at g l = l.out ≡ words_used g.B.Bounds.most l.at l.tokens l.word_use l.fn.out
