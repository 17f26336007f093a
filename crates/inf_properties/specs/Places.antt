-- The places of properties in a list, by their numbers.
use Rattle.std.specs.Prelude.{ℕ, ◌+◌, ◌<◌, ◌≡◌, List, [], ◌∷◌, ◌==◌, length, Option, None, Some, slice_get, if◌then◌else◌}
use Rattle.inf_properties.specs.declared.values.Property.{Property}

-- each property of a list, the first of which has the place `place`, has the place that is kept under its number
abbrev pub AreAt : ℕ → List ℕ → List Property → Type 0
AreAt place places [] = Unit {0}
AreAt place places (p ∷ properties) = (slice_get places p.number ≡ Some place) × AreAt (place + 1) places properties

-- the property at a place, if it has the number
abbrev pub checked : ℕ → Option Property → Option Property
checked number None = None
checked number (Some p) = if p.number == number then Some p else None

-- there is room for the place of each number
abbrev pub AreCovered : List ℕ → List Property → Type 0
AreCovered places [] = Unit {0}
AreCovered places (p ∷ properties) = (p.number < length places) × AreCovered places properties

-- the places that were kept are kept still
pub record KeepsPlaces (old new : List ℕ) : Type 0 where
  pub kept : (number place : ℕ) → slice_get old number ≡ Some place → slice_get new number ≡ Some place
