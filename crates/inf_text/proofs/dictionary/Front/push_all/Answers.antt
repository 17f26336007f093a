use Rattle.std.proofs.Common.{◌∷◌, []}
use Rattle.inf_text.proofs.Fronts.{given-more}
use Rattle.inf_text.proofs.dictionary.Front.push_all.Goals as goal

pub returns-in-Two : goal.returns-in-Two
returns-in-Two c = rw c.in-Two.is (given-more 9 _ (c.in-Two.a ∷ []) _ (c.in-Two.b ∷ []) _ c.push-in-Two.ensures c.push-in-Two-2.ensures)

pub returns-in-Four : goal.returns-in-Four
returns-in-Four s =
    let two = given-more 9 _ (s.in-Four.a ∷ []) _ (s.in-Four.b ∷ []) _ s.push-in-Four.ensures s.push-in-Four-2.ensures in
    let three = given-more 9 _ (s.in-Four.a ∷ s.in-Four.b ∷ []) _ (s.in-Four.c ∷ []) _ two s.push-in-Four-3.ensures in
    rw s.in-Four.is (given-more 9 _ (s.in-Four.a ∷ s.in-Four.b ∷ s.in-Four.c ∷ []) _ (s.in-Four.d ∷ []) _ three s.push-in-Four-4.ensures)
