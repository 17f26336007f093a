-- Where the words of the grammar are looked for.
use Rattle.std.specs.Prelude.{ℕ, ◌+◌, ◌*◌, ◌%◌, ◌-◌, List, [], ◌∷◌, map, length, if◌then◌else◌, nat_eq, get_or, suc}
use Rattle.std.specs.List.{range_with_len}
use Rattle.inf_syntax.specs.Words.{words}

-- a letter as a number that is the same in any case
abbrev pub letter : ℕ → ℕ
letter byte = byte % 32

-- The slot of a name, by its size and its first, third and last letter: the same in any case, and another one for each word.
abbrev pub slot : List ℕ → ℕ
slot name =
    (letter (get_or name 0 0) + 5 * letter (get_or name 2 0) + 61 * letter (get_or name (length name - 1) 0) + 16 * (length name % 16)) %
    256

-- the number of entries before the first that is this number
abbrev pub place_of : ℕ → List ℕ → ℕ
place_of n [] = 0
place_of n (m ∷ rest) = if nat_eq m n then 0 else suc (place_of n rest)

-- the slot of each word
abbrev pub word_slots : List ℕ
word_slots = map slot words

-- the place of the word with each slot
unfoldable pub all_slots : List ℕ
all_slots = map (λ n. place_of n word_slots) (range_with_len 0 256)
