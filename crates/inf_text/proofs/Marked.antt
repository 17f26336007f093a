-- A packed text is words of which only the last is marked.
use Rattle.std.proofs.Common.{◌<◌, ◌≤◌, ◌+◌, ◌*◌, ◌/◌, ℕ, leb, ltb, List, [], ◌∷◌, arith, IsTrue}
use Rattle.std.proofs.lemmas.Bool.Decides.{nat_tests}
use Rattle.inf_text.proofs.Unpacks.{AreZs-packed}
use Rattle.inf_characters.specs.{Items.IsText, declared.texts.TextItem.TextItem}
use Rattle.inf_text.specs.{Packing.AreZs, Packing.packed, Packing.words, Packing.zs_from, Parts.AreAbbreviations, Words.are_words}

-- the high byte of the last word is marked
marked : (a b : ℕ) → IsTrue (leb 128 (128 + 4 * a + b / 8))
marked a b = let high : 128 ≤ 128 + 4 * a + b / 8 = omega arith in grind (arith, nat_tests)

-- the high byte of a word before it is not marked
unmarked : (a b : ℕ) → a < 32 → b < 32 → IsTrue (ltb (0 + 4 * a + b / 8) 128)
unmarked a b la lb = let low : 0 + 4 * a + b / 8 < 128 = omega arith in grind (arith, nat_tests)

-- one more word before some
are_words-front : (high low : ℕ) (bytes : List ℕ) → IsTrue (ltb high 128) → IsTrue (are_words bytes) →
    IsTrue (are_words (high ∷ low ∷ bytes))
are_words-front high low [] small more = cc
are_words-front high low (next ∷ others) small more = rw small more

-- the words of some Z-characters
are_words-words : (zs : List ℕ) → AreZs zs → IsTrue (are_words (words zs))
are_words-words [] h = marked 5 5
are_words-words (a ∷ []) h = marked a 5
are_words-words (a ∷ b ∷ []) h = marked a b
are_words-words (a ∷ b ∷ c ∷ []) h = marked a b
are_words-words (a ∷ b ∷ c ∷ d ∷ zs) h = are_words-front _ _ (words (d ∷ zs)) (unmarked a b h.0 h.1.0) (are_words-words (d ∷ zs) h.1.1.1)

-- a text, packed with the declared abbreviations
pub are_words-packed : (declared : List (List TextItem)) (items : List TextItem) → AreAbbreviations declared → IsText items →
    IsTrue (are_words (packed items declared))
unfolding packed
are_words-packed declared items h text = are_words-words (zs_from declared 0 items) (AreZs-packed declared items h text)
