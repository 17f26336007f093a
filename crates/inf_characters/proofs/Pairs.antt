-- The search among the spellings of accented letters.
use Rattle.std.proofs.Common.{◌≡◌, ◌+◌, ℕ, Bool, false, ◌&&◌, cond, Some, List, ◌∷◌, ap, eqb}
use Rattle.inf_characters.specs.Reading.{pair_from}

-- a pair that is another is passed over
pub pair_from-more : (a b n x y : ℕ) (rest : List ℕ) → (eqb x a && eqb y b) ≡ false →
    pair_from a b n (x ∷ y ∷ rest) ≡ pair_from a b (n + 1) rest
pair_from-more a b n x y rest e = ap (λ (t : Bool). cond t (Some n) (pair_from a b (n + 1) rest)) e
