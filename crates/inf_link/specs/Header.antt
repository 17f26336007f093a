-- The header of a story. Z-Machine Standard 1.1, section 11.1.
use Rattle.std.specs.Prelude.{ℕ, ◌+◌, ◌/◌, ◌%◌, List, [], ◌∷◌, ◌++◌, length, replicate, sum, flat_map}
use Rattle.inf_area.specs.{Scales.scale_number, Scales.version, Words.word, declared.scale.Scale.Scale}
use Rattle.inf_link.specs.{declared.areas.Areas.Areas, declared.header.HeaderFields.HeaderFields}

-- the size of the header, behind which the areas begin
abbrev pub header_size : ℕ
header_size = 64

-- a number in two bytes, the high one first, modulo 65536
abbrev pub number_bytes : ℕ → List ℕ
number_bytes number = word (number % 65536)

-- the sum of the bytes behind the header ($1C)
abbrev pub checksum : List ℕ → ℕ
checksum body = sum body % 65536

-- Up to the serial number: version, flags, and from $02 on release, code, first instruction, dictionary, objects, globals,
-- static memory, flags; from $12 on the serial number.
unfoldable pub header_front : HeaderFields → Areas ℕ → List ℕ
header_front fields bases = (version fields.scale ∷ 0 ∷ []) ++ flat_map number_bytes (
    fields.release ∷ bases.code ∷ (bases.code + 1) ∷ bases.dictionary ∷ bases.property_defaults ∷ bases.globals ∷ bases.grammar ∷ 0 ∷ [])
    ++ fields.serial

-- From $18 on: abbreviations, the length of the story, divided as packed addresses are, and the checksum; all other bytes are 0.
unfoldable pub header_back : Scale → ℕ → List ℕ → List ℕ
header_back scale abbreviations body =
    flat_map number_bytes (abbreviations ∷ ((header_size + length body) / scale_number scale) ∷ checksum body ∷ []) ++ replicate 34 0

-- the header of a story with the given bytes behind it, whose areas begin at the given places
abbrev pub header : HeaderFields → Areas ℕ → List ℕ → List ℕ
header fields bases body = header_front fields bases ++ header_back fields.scale bases.abbreviations body
