-- Letters behind others choose as they do alone, over the choices of those.
use Rattle.std.proofs.Common.{◌≡◌, ℕ, List, [], ◌∷◌, Option, Some, None, refl, ap, ◌∙◌, option_map}
use Rattle.inf_letters.specs.{declared.letters.Letters.Letters, declared.letters.Said.Said}
use Rattle.inf_letters.specs.Letters.{alone, either, followed, paired, spoken, spoken_over, with_letters}

-- One choice more over others is one more of the upper ones.
pub spoken-over : (s : Said) (l others : Letters) → spoken s (spoken_over l others) ≡ spoken_over (spoken s l) others
spoken-over (Said.Set set) l others = refl
spoken-over (Said.Scale scale) l others = refl
spoken-over (Said.Warns warns) l others = refl
spoken-over (Said.Abbreviates abbreviates) l others = refl
spoken-over (Said.Counts counts) l others = refl
spoken-over (Said.Ignores ignores) l others = refl
spoken-over (Said.Debugs debugs) l others = refl
spoken-over Said.Nothing l others = refl

-- the choices, if there are any, over those of `others`
abbrev over_all : Letters → Option Letters → Option Letters
over_all others o = option_map (λ l. spoken_over l others) o

-- A choice, or none, before letters that keep the law keeps it, too.
followed-over : (next : Letters → Option Letters) (l others : Letters) (o : Option Said) →
    ((s : Said) → next (spoken_over (spoken s l) others) ≡ over_all others (next (spoken s l)))
    → followed next (spoken_over l others) o ≡ over_all others (followed next l o)
followed-over next l others None law = refl
followed-over next l others (Some s) law = ap next (spoken-over s l others) ∙ law s

either-over : (first upper : Said → Option Letters) (second other : Option Letters) (others : Letters) (o : Option Said) →
    ((s : Said) → upper s ≡ over_all others (first s))
    → other ≡ over_all others second → either o upper other ≡ over_all others (either o first second)
either-over first upper second other others None law rest = rest
either-over first upper second other others (Some s) law rest = law s

-- Letters behind others choose as they do alone, over the choices of those.
pub with_letters-over : (letters : List ℕ) (l others : Letters) →
    with_letters letters (spoken_over l others) ≡ option_map (λ x. spoken_over x others) (with_letters letters l)
with_letters-over [] l others = refl
with_letters-over (b ∷ []) l others = followed-over (λ x. Some x) l others (alone b) (λ s. refl)
with_letters-over (b ∷ c ∷ letters) l others =
    either-over (λ s. with_letters (c ∷ letters) (spoken s l)) (λ s. with_letters (c ∷ letters) (spoken s (spoken_over l others)))
    (followed (with_letters letters) l (paired b c)) (followed (with_letters letters) (spoken_over l others) (paired b c)) others (alone b)
    (λ s. ap (with_letters (c ∷ letters)) (spoken-over s l others) ∙ with_letters-over (c ∷ letters) (spoken s l) others)
    (followed-over (with_letters letters) l others (paired b c) (λ s. with_letters-over letters (spoken s l) others))
