-- The places where the areas of a story begin, by the sizes of those before them. Z-Machine Standard 1.1, section 1.1.
use Rattle.std.specs.Prelude.{ℕ, ◌+◌, List, [], ◌∷◌, take, if◌then◌else◌, nat_lt, Option, Some, None}
use Rattle.inf_area.specs.{Scales.aligned, Scales.most_bytes, declared.scale.Scale.Scale, declared.targets.AreaName.AreaName}
use Rattle.inf_link.specs.{Areas.area_of, Areas.by_name, Areas.is_packed, Areas.order, Areas.rank, Header.header_size}
use Rattle.inf_link.specs.{declared.areas.Areas.Areas, declared.link.LinkFault.LinkFault, declared.memory_map.MemoryMap.MemoryMap}

-- the place where an area begins behind `at` bytes
abbrev pub begin : Scale → AreaName → ℕ → ℕ
begin scale name at = if is_packed name then aligned scale at else at

-- the place where areas of the given lengths end behind `at` bytes
abbrev pub end_of : Areas ℕ → Scale → ℕ → List AreaName → ℕ
end_of lengths scale at [] = at
end_of lengths scale at (name ∷ names) = end_of lengths scale (begin scale name at + area_of name lengths) names

-- the place where an area begins: behind the header and the areas before it
abbrev pub base_of : Areas ℕ → Scale → AreaName → ℕ
base_of lengths scale name = begin scale name (end_of lengths scale header_size (take (rank name) order))

-- the places where each area begins, and where the story ends
abbrev pub map_of : Areas ℕ → Scale → MemoryMap
map_of lengths scale = record { bases = by_name (base_of lengths scale); end = aligned scale (end_of lengths scale header_size order) }

-- the last address at which code may begin
abbrev pub most_readable : ℕ
most_readable = 65534

-- the reason why areas of the given lengths make no story, if there is one
abbrev pub too_long : Areas ℕ → Scale → Option LinkFault
too_long lengths scale =
    let map = map_of lengths scale in
    if nat_lt most_readable map.bases.code then Some LinkFault.ReadableTooLong
    else if nat_lt (most_bytes scale) map.end then Some LinkFault.StoryTooLong
    else None
