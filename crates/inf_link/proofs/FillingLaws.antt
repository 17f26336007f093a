-- The effect of fixups, in whatever order they are filled.
use Rattle.std.proofs.Common.{ap}
use Rattle.inf_link.specs.{Areas.lengths, FillingLaws.FixupsAreFilledInAnyOrder, MemoryMaps.map_of, Targets.number_of}
use Rattle.inf_link.specs.Stories.{filled_areas, story_of}
use Rattle.inf_link.proofs.Apart.{filled-in_any_order}

pub fixups_are_filled_in_any_order : FixupsAreFilledInAnyOrder
unfolding filled_areas
fixups_are_filled_in_any_order contents fixups others targets fields apart apart_others same = ap (λ areas. story_of areas fields)
    (filled-in_any_order (number_of targets fields.scale (map_of (lengths contents) fields.scale).bases) contents fixups others apart
    apart_others same)
