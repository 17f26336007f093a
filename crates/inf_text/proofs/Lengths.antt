-- The number of bytes that Z-characters give.
use Rattle.std.proofs.Common.{◌≡◌, ◌<◌, ◌+◌, ◌*◌, ◌/◌, ℕ, List, [], ◌∷◌, length, refl, arith}
use Rattle.inf_text.specs.Packing.{words}

-- Z-characters give two bytes for each three of them, and two for those left at the end.
pub length-words : (zs : List ℕ) → 0 < length zs → (length zs + 2) / 3 * 2 ≡ length (words zs)
length-words [] h = omega arith
length-words (a ∷ []) h = refl
length-words (a ∷ b ∷ []) h = refl
length-words (a ∷ b ∷ c ∷ []) h = refl
length-words (a ∷ b ∷ c ∷ d ∷ zs) h = omega (arith, length-words (d ∷ zs) (omega arith))
