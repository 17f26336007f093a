-- The words of a packed text (Z-Machine Standard 1.1, section 3.2).
use Rattle.std.specs.Prelude.{ℕ, nat_lt, nat_le, Bool, false, ◌&&◌, List, [], ◌∷◌}

-- Tells whether some bytes are one word or more, of two bytes each, and only the last word has its top bit set.
abbrev pub are_words : List ℕ → Bool
are_words [] = false
are_words (high ∷ []) = false
are_words (high ∷ low ∷ []) = nat_le 128 high
are_words (high ∷ low ∷ next ∷ others) = nat_lt high 128 && are_words (next ∷ others)
