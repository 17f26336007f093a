-- The bytes of a source that its reader counts.
use Rattle.std.specs.Prelude.{◌≡◌, ℕ, ◌+◌, ◌<◌, ◌≤◌, List, ◌∷◌, min}
use Rattle.inf_devices.specs.Files.{Counts, last_count, most_source_bytes}

-- A reader counts at least `given` bytes as given of the innermost source; these are the counts of the sources around it. Where the
-- source is too long by this count, an opening more is counted as too long than `base`.
pub record IsCountedBy (c : Counts) (outer : List ℕ) (base given : ℕ) : Type 0 where
  pub count : ℕ
  pub is : c.each ≡ count ∷ outer
  pub within : given ≤ count
  pub least : min base last_count ≤ c.too_long
  pub too_long : most_source_bytes < count → min (base + 1) last_count ≤ c.too_long

-- Between two moments, in which `before` and then `after` bytes of the innermost source were given, the reader counts these, and the counts
-- of the sources around it stay.
pub record CountsOn (old new : Counts) (before after : ℕ) : Type 0 where
  pub too_long : min old.too_long last_count ≤ new.too_long
  pub stays : (outer : List ℕ) (base : ℕ) → IsCountedBy old outer base before → IsCountedBy new outer base after
