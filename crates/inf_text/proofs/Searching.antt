-- The search for the longest abbreviation.
use Rattle.std.proofs.Common.{◌≡◌, ◌<◌, ◌≤◌, ◌+◌, ℕ, Bool, true, false, Option, None, Some, List, [], ◌∷◌, length, refl, arith, IfSome}
use Rattle.std.proofs.Common.{cond, ltb, ◌&&◌}
use Rattle.inf_characters.specs.{Items.same_item, declared.texts.TextItem.TextItem}
use Rattle.inf_text.specs.Packing.{begins_with, better, longer, longest, longest_from}

and_right : (a b : Bool) → (a && b) ≡ true → b ≡ true
and_right true b h = h
and_right false b h = cc

-- a text that begins some items is no longer than they are
pub begins_with-fits : (items a : List TextItem) → begins_with items a ≡ true → length a ≤ length items
begins_with-fits items [] h = omega arith
begins_with-fits [] (y ∷ ys) h = cc
begins_with-fits (x ∷ xs) (y ∷ ys) h = omega (arith, begins_with-fits xs ys (and_right (same_item x y) (begins_with xs ys) h))

-- a number is below a bound, and its length fits the items
abbrev pub Fits : ℕ → List TextItem → ℕ × ℕ → Type 0
Fits m items found = (found.0 < m) × (found.1 ≤ length items)

longer-fits : (best : Option (ℕ × ℕ)) (n len m : ℕ) (items : List TextItem) → IfSome best (Fits m items) → n < m → len ≤ length items →
    IfSome (longer best n len) (Fits m items)
longer-fits None n len m items h lt le = (lt, le)
longer-fits (Some best) n len m items h lt le = go (ltb best.1 len) where
  go : (b : Bool) → IfSome (cond b (Some (n, len)) (Some best)) (Fits m items)
  go true = (lt, le)
  go false = h

better-fits : (best : Option (ℕ × ℕ)) (n : ℕ) (a : List TextItem) (m : ℕ) (items : List TextItem) → IfSome best (Fits m items) → n < m →
    IfSome (better best n a items) (Fits m items)
better-fits best n a m items h lt = go (begins_with items a) refl where
  go : (b : Bool) → begins_with items a ≡ b → IfSome (cond b (longer best n (length a)) best) (Fits m items)
  go true e = longer-fits best n (length a) m items h lt (begins_with-fits items a e)
  go false e = h

pub longest_from-fits : (best : Option (ℕ × ℕ)) (n : ℕ) (texts : List (List TextItem)) (m : ℕ) (items : List TextItem) →
    n + length texts ≡ m → IfSome best (Fits m items) → IfSome (longest_from best n texts items) (Fits m items)
longest_from-fits best n [] m items e h = h
longest_from-fits best n (a ∷ texts) m items e h =
    longest_from-fits (better best n a items) (n + 1) texts m items (omega arith) (better-fits best n a m items h (omega arith))

pub longest-fits : (texts : List (List TextItem)) (items : List TextItem) → IfSome (longest texts items) (Fits (length texts) items)
unfolding longest
longest-fits texts items = longest_from-fits None 0 texts (length texts) items (omega arith) tt

-- the number of the longest is that of a declared one
pub longest-few : (texts : List (List TextItem)) (items : List TextItem) → length texts ≤ 64 →
    IfSome (longest texts items) (λ found. (found.0 < 64) × (found.1 ≤ length items))
longest-few texts items le = go (longest texts items) (longest-fits texts items) where
  go : (found : Option (ℕ × ℕ)) → IfSome found (Fits (length texts) items) →
      IfSome found (λ found. (found.0 < 64) × (found.1 ≤ length items))
  go None h = tt
  go (Some found) h = let lt : found.0 < length texts = h.0 in (omega arith, h.1)
