-- The directories in which included files are looked for.
use Rattle.std.specs.Prelude.{ℕ, ◌==◌, List, [], ◌∷◌, if◌then◌else◌, Option, Some, None}

-- a byte in front of the first directory
abbrev pub in_front : ℕ → List (List ℕ) → List (List ℕ)
in_front b [] = (b ∷ []) ∷ []
in_front b (directory ∷ others) = (b ∷ directory) ∷ others

-- a text cut at its commas: an empty one is one empty directory
abbrev pub cut_at_commas : List ℕ → List (List ℕ)
cut_at_commas [] = [] ∷ []
cut_at_commas (b ∷ bs) = if b == 44 then [] ∷ cut_at_commas bs else in_front b (cut_at_commas bs)

-- the directories of a path: none where no word gives them
abbrev pub directories_of : Option (List ℕ) → List (List ℕ)
directories_of None = []
directories_of (Some path) = cut_at_commas path
