-- The fixups of areas, filled with their numbers.
use Rattle.std.specs.Prelude.{ℕ, ◌+◌, List, [], ◌∷◌, length, ◌==◌, if◌then◌else◌, nat_lt}
use Rattle.inf_area.specs.{Words.with_word, declared.fixups.Fixup.Fixup, declared.targets.AreaName.AreaName, declared.targets.Target.Target}
use Rattle.inf_link.specs.{Areas.area_of, Areas.by_name, Areas.rank, declared.areas.Areas.Areas}

-- a number in the two bytes at a place, if both lie within
abbrev pub with_number : ℕ → ℕ → List ℕ → List ℕ
with_number place number bytes = if nat_lt (place + 1) (length bytes) then with_word bytes place number else bytes

-- a number in the two bytes at a place of the area with this name; the other areas stay as they are
abbrev pub with_filled : AreaName → ℕ → ℕ → Areas (List ℕ) → Areas (List ℕ)
with_filled area place number contents = by_name (λ name.
    if rank area == rank name then with_number place number (area_of name contents) else area_of name contents)

-- The numbers of fixups in their places, one after the other. Laws show that the order does not matter where no two
-- overlap, and that areas written as cells get the bytes of the cells.
abbrev pub filled : (Target → ℕ) → List Fixup → Areas (List ℕ) → Areas (List ℕ)
filled number [] contents = contents
filled number (fixup ∷ fixups) contents = filled number fixups (with_filled fixup.area fixup.place (number fixup.target) contents)
