-- The effect of fixups, in whatever order they are filled.
use Rattle.std.specs.Prelude.{◌≡◌, ℕ, ◌+◌, ◌≤◌, ◌⊎◌, ◌↔◌, List, [], ◌∷◌, ◌++◌, AllPairs, Contains, flat_map}
use Rattle.inf_area.specs.{Words.word, declared.cells.Cell.Cell, declared.fixups.Fixup.Fixup, declared.targets.Target.Target}
use Rattle.inf_area.specs.Cells.{bytes_of, fixups_of, size_of}
use Rattle.inf_link.specs.{Areas.area_of, Areas.by_name, Areas.order, MemoryMaps.map_of, Stories.story, Stories.story_of, Targets.Lookup}
use Rattle.inf_link.specs.{Targets.number_of, declared.areas.Areas.Areas, declared.header.HeaderFields.HeaderFields}

-- Tells whether two fixups do not overlap.
abbrev pub AreApart : Fixup → Fixup → Type 0
AreApart fixup other = fixup.area ≡ other.area → (fixup.place + 2 ≤ other.place) ⊎ (other.place + 2 ≤ fixup.place)

-- Tells whether lists have the same fixups.
abbrev pub HaveSameFixups : List Fixup → List Fixup → Type 0
HaveSameFixups fixups others = (fixup : Fixup) → Contains fixups fixup ↔ Contains others fixup

-- Fixups of which no two overlap give the same story in each order.
abbrev pub FixupsAreFilledInAnyOrder : Type 0
FixupsAreFilledInAnyOrder = (contents : Areas (List ℕ)) (fixups others : List Fixup) (targets : Lookup) (fields : HeaderFields)
    → AllPairs AreApart fixups → AllPairs AreApart others → HaveSameFixups fixups others
    → story contents others targets fields ≡ story contents fixups targets fields

-- areas of cells: their bytes, with zeros for numbers that are known later, and their fixups
abbrev pub cells_contents : Areas (List Cell) → Areas (List ℕ)
cells_contents cells = by_name (λ name. bytes_of (area_of name cells))

abbrev pub cells_fixups : Areas (List Cell) → List Fixup
cells_fixups cells = flat_map (λ name. fixups_of name 0 (area_of name cells)) order

abbrev pub cells_sizes : Areas (List Cell) → Areas ℕ
cells_sizes cells = by_name (λ name. size_of (area_of name cells))

-- the bytes of cells, each with its number
abbrev pub numbered : (Target → ℕ) → List Cell → List ℕ
numbered number [] = []
numbered number (Cell.Byte byte ∷ cells) = byte ∷ numbered number cells
numbered number (Cell.Later target ∷ cells) = word (number target) ++ numbered number cells

-- The story of areas of cells: their sizes determine where each begins, this determines the number of each cell, and the
-- numbers determine the bytes.
abbrev pub cells_story : Areas (List Cell) → Lookup → HeaderFields → List ℕ
cells_story cells targets fields =
    let number = number_of targets fields.scale (map_of (cells_sizes cells) fields.scale).bases in
    story_of (by_name (λ name. numbered number (area_of name cells))) fields

-- Areas that were written as cells give the story of the cells, in whatever order their fixups are filled.
abbrev pub CellsComeOutAsNumbers : Type 0
CellsComeOutAsNumbers = (cells : Areas (List Cell)) (fixups : List Fixup) (targets : Lookup) (fields : HeaderFields)
    → AllPairs AreApart fixups → HaveSameFixups (cells_fixups cells) fixups
    → story (cells_contents cells) fixups targets fields ≡ cells_story cells targets fields
