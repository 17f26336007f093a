-- The counts of the bytes that were given of sources that are open.
use Rattle.std.specs.Prelude.{ℕ, List, [], ◌∷◌, reverse, Option, Some, None}

-- the counts of the innermost source, if there is one, and of those around it, the innermost first
abbrev pub each_of : Option ℕ → List ℕ → List ℕ
each_of None outer = []
each_of (Some count) outer = count ∷ reverse outer
