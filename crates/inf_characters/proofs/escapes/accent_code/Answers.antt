use Rattle.std.proofs.Common.{◌∙◌, ap, ℕ}
use Rattle.inf_characters.specs.Reading.{pair_from, spelled, spellings}
use Rattle.inf_characters.proofs.escapes.accent_code.Goals as goal

pub returns : goal.returns
unfolding spelled spellings
returns c = c.pair_code.ensures ∙ ap (λ (mark : ℕ). pair_from mark c.args.letter 155 spellings) c.stroke.ensures
