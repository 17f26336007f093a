-- A story by its parts.
use Rattle.std.proofs.Common.{◌≡◌, ◌∙◌, ◌++◌, ℕ, List, length, ap, sym}
use Rattle.inf_area.specs.declared.fixups.Fixup.{Fixup}
use Rattle.inf_link.specs.{Areas.lengths, Bodies.body, Filling.filled, Header.header, MemoryMaps.map_of, Targets.Lookup, Targets.number_of}
use Rattle.inf_link.specs.declared.{areas.Areas.Areas, header.HeaderFields.HeaderFields, link.Sizes.Sizes, memory_map.MemoryMap.MemoryMap}
use Rattle.inf_link.specs.Stories.{filled_areas, sizes, story, story_of}
use Rattle.inf_link.proofs.Fillings.{lengths-filled}

-- filled areas, at the places of this map
pub filled-map : (contents areas : Areas (List ℕ)) (fixups : List Fixup) (targets : Lookup) (fields : HeaderFields) (sizes : Areas ℕ)
    (map : MemoryMap)
    → sizes ≡ lengths contents → map ≡ map_of sizes fields.scale → areas ≡ filled (number_of targets fields.scale map.bases) fixups contents
    → areas ≡ filled_areas contents fixups targets fields
unfolding filled_areas
filled-map contents areas fixups targets fields sizes map are_sizes is_map are_filled = are_filled
    ∙ ap (λ m. filled (number_of targets fields.scale m.bases) fixups contents) is_map
    ∙ ap (λ s. filled (number_of targets fields.scale (map_of s fields.scale).bases) fixups contents) are_sizes

pub lengths-filled_areas : (contents : Areas (List ℕ)) (fixups : List Fixup) (targets : Lookup) (fields : HeaderFields) →
    lengths (filled_areas contents fixups targets fields) ≡ lengths contents
unfolding filled_areas
lengths-filled_areas contents fixups targets fields =
    lengths-filled (number_of targets fields.scale (map_of (lengths contents) fields.scale).bases) fixups contents

-- a header and the bytes behind it
pub story-parts : (contents areas : Areas (List ℕ)) (fixups : List Fixup) (targets : Lookup) (fields : HeaderFields) (sizes : Areas ℕ)
    (map : MemoryMap) (behind : List ℕ)
    → sizes ≡ lengths contents → map ≡ map_of sizes fields.scale → areas ≡ filled_areas contents fixups targets fields → behind ≡ body
    fields.scale areas → header fields map.bases behind ++ behind ≡ story contents fixups targets fields
unfolding story_of
story-parts contents areas fixups targets fields sizes map behind are_sizes is_map are_filled is_behind =
    let done = filled_areas contents fixups targets fields in
    let same : sizes ≡ lengths done = are_sizes ∙ sym (lengths-filled_areas contents fixups targets fields) in
    let whole : behind ≡ body fields.scale done = is_behind ∙ ap (body fields.scale) are_filled in
    ap (λ m. header fields m.bases behind ++ behind) is_map ∙ ap (λ s. header fields (map_of s fields.scale).bases behind ++ behind) same
    ∙ ap (λ bytes. header fields (map_of (lengths done) fields.scale).bases bytes ++ bytes) whole

-- the numbers of bytes of the parts
pub sizes-parts : (contents areas : Areas (List ℕ)) (fixups : List Fixup) (targets : Lookup) (fields : HeaderFields) (measured : Areas ℕ)
    (map : MemoryMap) (bytes : List ℕ) (code strings story : ℕ)
    → measured ≡ lengths contents → map ≡ map_of measured fields.scale → areas ≡ filled_areas contents fixups targets fields
    → code ≡ length areas.code → strings ≡ length areas.strings → story ≡ length bytes
    → record { code = code; strings = strings; readable = map.bases.code; story = story } ≡ sizes contents fields bytes
sizes-parts contents areas fixups targets fields measured map bytes code strings story are_measured is_map are_filled is_code are_strings
    is_story =
    let same : lengths areas ≡ lengths contents = ap lengths are_filled ∙ lengths-filled_areas contents fixups targets fields in
    let first : code ≡ length contents.code = is_code ∙ ap (λ (l : Areas ℕ). l.code) same in
    let second : strings ≡ length contents.strings = are_strings ∙ ap (λ (l : Areas ℕ). l.strings) same in
    let third : map.bases.code ≡ (map_of (lengths contents) fields.scale).bases.code =
    ap (λ (m : MemoryMap). m.bases.code) is_map ∙ ap (λ l. (map_of l fields.scale).bases.code) are_measured in
    alike first second third is_story where
      alike : {a b c d e f g h : ℕ} → a ≡ e → b ≡ f → c ≡ g → d ≡ h → ◌≡◌ {A = Sizes}
          record { code = a; strings = b; readable = c; story = d } record { code = e; strings = f; readable = g; story = h }
      alike p q r s = cc
