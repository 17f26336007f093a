-- The story: its header and the bytes of its areas. Z-Machine Standard 1.1, sections 1.1 and 11.
use Rattle.std.specs.Prelude.{ℕ, List, ◌++◌, length, Option, Some, None}
use Rattle.inf_area.specs.declared.fixups.Fixup.{Fixup}
use Rattle.inf_link.specs.{Areas.lengths, Bodies.body, Filling.filled, Header.header, MemoryMaps.map_of, Targets.Lookup, Targets.number_of}
use Rattle.inf_link.specs.declared.{areas.Areas.Areas, header.HeaderFields.HeaderFields, link.LinkFault.LinkFault, link.Sizes.Sizes}

-- a story: its bytes, and the numbers of bytes of its parts
pub record Linked : Type 0 where
  pub bytes : List ℕ
  pub sizes : Sizes

-- areas with zeros at their fixups, filled with the numbers of these
unfoldable pub filled_areas : Areas (List ℕ) → List Fixup → Lookup → HeaderFields → Areas (List ℕ)
filled_areas contents fixups targets fields =
    filled (number_of targets fields.scale (map_of (lengths contents) fields.scale).bases) fixups contents

-- the story of areas whose fixups are filled
unfoldable pub story_of : Areas (List ℕ) → HeaderFields → List ℕ
story_of contents fields =
    let behind = body fields.scale contents in
    header fields (map_of (lengths contents) fields.scale).bases behind ++ behind

-- the story of areas with zeros at their fixups
abbrev pub story : Areas (List ℕ) → List Fixup → Lookup → HeaderFields → List ℕ
story contents fixups targets fields = story_of (filled_areas contents fixups targets fields) fields

-- the numbers of bytes of the story and of its parts
abbrev pub sizes : Areas (List ℕ) → HeaderFields → List ℕ → Sizes
sizes contents fields bytes = record {
  code = length contents.code;
  strings = length contents.strings;
  readable = (map_of (lengths contents) fields.scale).bases.code;
  story = length bytes;
}

-- the fault where there is no story: `fault`, or else want of memory
abbrev pub refusal : Option LinkFault → LinkFault
refusal None = LinkFault.Memory
refusal (Some fault) = fault
