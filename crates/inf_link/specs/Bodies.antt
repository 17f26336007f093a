-- The bytes behind the header of a story. Z-Machine Standard 1.1, section 1.1.
use Rattle.std.specs.Prelude.{ℕ, List, [], ◌∷◌, ◌++◌, length, replicate, if◌then◌else◌}
use Rattle.inf_area.specs.{Scales.gap, declared.scale.Scale.Scale, declared.targets.AreaName.AreaName}
use Rattle.inf_link.specs.{Areas.area_of, Areas.is_packed, Areas.order, declared.areas.Areas.Areas}

-- Bytes with zeros behind them up to the next place that has a packed address. They follow a header of 64 bytes, which is a
-- multiple of 4 and of 8.
abbrev pub padded : Scale → List ℕ → List ℕ
padded scale bytes = bytes ++ replicate (gap scale (length bytes)) 0

-- bytes with zeros up to the place where an area begins
abbrev pub up_to : Scale → AreaName → List ℕ → List ℕ
up_to scale name bytes = if is_packed name then padded scale bytes else bytes

-- areas behind some bytes, one behind the other, and zeros at their end
abbrev pub joined : Scale → Areas (List ℕ) → List AreaName → List ℕ → List ℕ
joined scale contents [] bytes = padded scale bytes
joined scale contents (name ∷ names) bytes = joined scale contents names (up_to scale name bytes ++ area_of name contents)

-- the bytes behind the header
abbrev pub body : Scale → Areas (List ℕ) → List ℕ
body scale contents = joined scale contents order []
