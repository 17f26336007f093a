-- Texts of words: six bytes each, in the order of a dictionary (Z-Machine Standard 1.1, section 13.2).
use Rattle.std.specs.{Cmp.Lexicographic.slice_cmp, List.AllByRecursion, List.Sorted.IsStrictlySortedBy, Map.keys_of}
use Rattle.std.specs.Prelude.{◌≡◌, ℕ, List, [], ◌∷◌, ◌+◌, Bool, length, if◌then◌else◌}
use Rattle.std.specs.Ordering.{nat_cmp, is_lt}
use Rattle.inf_dictionary.specs.declared.uses.Word.{Word}

abbrev pub Text : Type 0
Text = List ℕ

-- the texts of some words
abbrev pub texts_of : List (Text × Word) → List Text
texts_of words = keys_of words

-- each text is below the next
abbrev pub AreRising : List Text → Type 0
AreRising texts = IsStrictlySortedBy (slice_cmp nat_cmp) texts

-- each text has six bytes
abbrev pub AreWhole : List Text → Type 0
AreWhole texts = AllByRecursion (λ text. length text ≡ 6) texts

-- Tells whether `text` is below `other`: its byte is lower where they first differ.
abbrev pub is_below : Text → Text → Bool
is_below text other = is_lt (slice_cmp nat_cmp text other)

-- the number of texts that are below `text`
abbrev pub rank_of : Text → List Text → ℕ
rank_of text [] = 0
rank_of text (other ∷ texts) = if is_below other text then rank_of text texts + 1 else rank_of text texts
