-- Names of which nothing is known but that they were given: each without case, in the order in which they were first given.
use Rattle.std.specs.{List.list_any, Str.bytes_eq}
use Rattle.std.specs.Prelude.{ℕ, Bool, List, [], ◌∷◌, ◌++◌, if◌then◌else◌}
use Rattle.inf_names.specs.Symbols.{folded}

-- whether a name, in any case, is one of them
abbrev pub is_among : List ℕ → List (List ℕ) → Bool
is_among name names = list_any (bytes_eq (folded name)) names

-- the names and one more, unless it is one of them
abbrev pub with_name : List ℕ → List (List ℕ) → List (List ℕ)
with_name name names = if is_among name names then names else names ++ folded name ∷ []
