-- The length and the sum that a story's header says, and the places of its areas.
use Rattle.std.specs.Prelude.{◌≡◌, ℕ, ◌/◌, ◌%◌, List, length, take, drop, sum}
use Rattle.inf_area.specs.{Scales.scale_number, declared.scale.Scale.Scale, declared.targets.AreaName.AreaName}
use Rattle.inf_link.specs.{Areas.area_of, Areas.lengths, Header.number_bytes, MemoryMaps.base_of, MemoryMaps.map_of, Stories.story_of}
use Rattle.inf_link.specs.{declared.areas.Areas.Areas, declared.header.HeaderFields.HeaderFields}

-- Tells whether bytes are found among others, from a place on.
abbrev pub HasAt : ℕ → List ℕ → List ℕ → Type 0
HasAt place bytes part = take (length part) (drop place bytes) ≡ part

-- Tells whether a story is as long as its map and its header say, and the bytes behind its header add up to the sum in its
-- header (Z-Machine Standard 1.1, section 11.1, $1A and $1C).
pub record TellsItself (scale : Scale) (end : ℕ) (bytes : List ℕ) : Type 0 where
  pub as_mapped : length bytes ≡ end
  pub whole : length bytes % scale_number scale ≡ 0
  pub length_word : HasAt 0x1A bytes (number_bytes (length bytes / scale_number scale))
  pub checksum_word : HasAt 0x1C bytes (number_bytes (sum (drop 0x40 bytes)))

-- Each story with a serial number of six digits says its length and its sum, whatever its areas are.
abbrev pub StoriesTellThemselves : Type 0
StoriesTellThemselves = (contents : Areas (List ℕ)) (fields : HeaderFields) → length fields.serial ≡ 6
    → TellsItself fields.scale (map_of (lengths contents) fields.scale).end (story_of contents fields)

-- Each area begins where the map has it.
abbrev pub AreasStandAtTheirBases : Type 0
AreasStandAtTheirBases = (contents : Areas (List ℕ)) (fields : HeaderFields) → length fields.serial ≡ 6
    → (name : AreaName) → HasAt (base_of (lengths contents) fields.scale name) (story_of contents fields) (area_of name contents)
