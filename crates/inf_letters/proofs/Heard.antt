-- Letters that are heard one by one or two by two.
use Rattle.std.proofs.Common.{◌≡◌, ℕ, List, [], ◌∷◌, Option, Some, None, ap, sym, ◌∙◌}
use Rattle.inf_letters.specs.{declared.letters.Letters.Letters, declared.letters.Said.Said}
use Rattle.inf_letters.specs.Letters.{alone, either, followed, paired, spoken, with_letters}

-- A letter by itself makes its choice, and the letters behind it come after that.
pub with_letters-alone : (b : ℕ) (letters : List ℕ) (l : Letters) (s : Said) → alone b ≡ Some s
    → with_letters letters (spoken s l) ≡ with_letters (b ∷ letters) l
with_letters-alone b [] l s e = sym (ap (followed (λ x. Some x) l) e)
with_letters-alone b (c ∷ letters) l s e =
    let next : Said → Option Letters = λ said. with_letters (c ∷ letters) (spoken said l) in
    sym (ap (λ (o : Option Said). either o next (followed (with_letters letters) l (paired b c))) e)

-- A pair of letters that is no letter by itself does the same.
pub with_letters-paired : (b c : ℕ) (letters : List ℕ) (l : Letters) (s : Said) → alone b ≡ None → paired b c ≡ Some s
    → with_letters letters (spoken s l) ≡ with_letters (b ∷ c ∷ letters) l
with_letters-paired b c letters l s none e =
    let next : Said → Option Letters = λ said. with_letters (c ∷ letters) (spoken said l) in
    sym (ap (λ (o : Option Said). either o next (followed (with_letters letters) l (paired b c))) none
    ∙ ap (followed (with_letters letters) l) e)
