-- Areas that were written as cells get the cells' numbers.
use Rattle.std.proofs.Common.{◌≡◌, ◌∙◌, ℕ, ◌+◌, ◌/◌, ◌%◌, ◌<◌, ◌≤◌, ◌≢◌, ◌⊎◌, inl, inr, List, [], ◌∷◌, ◌++◌, Bool, true, false}
use Rattle.std.proofs.Common.{if◌then◌else◌, length, set, refl, ap, sym, arith, append_assoc, length-append, ◌==◌, flat_map}
use Rattle.std.proofs.{lemmas.Bool.eq-eqb, lemmas.Bool.eqb-true, lemmas.Bool.lt-ltb, lemmas.List.set_at}
use Rattle.inf_area.specs.{Cells.bytes_of, Cells.fixups_of, Cells.size_of, Words.with_word, Words.word, declared.cells.Cell.Cell}
use Rattle.inf_area.specs.{declared.fixups.Fixup.Fixup, declared.targets.AreaName.AreaName, declared.targets.Target.Target}
use Rattle.inf_area.proofs.Joining.{length-bytes_of}
use Rattle.inf_link.specs.{Filling.filled, Filling.with_number, MemoryMaps.map_of, Stories.filled_areas, Stories.story, Stories.story_of}
use Rattle.inf_link.specs.{Targets.Lookup, Targets.number_of, declared.areas.Areas.Areas, declared.header.HeaderFields.HeaderFields}
use Rattle.inf_link.specs.Areas.{area_of, by_name, lengths, order, rank}
use Rattle.inf_link.specs.FillingLaws.{AreApart, CellsComeOutAsNumbers, cells_contents, cells_fixups, cells_sizes, cells_story, numbered}
use Rattle.inf_link.proofs.Apart.{Apart, IsIn, all_apart, area_of-step, filled-any_order, in_same, in_same_back, rank-same, step}
use Rattle.inf_link.proofs.Names.{area_of-by_name, by_name-same}

-- the fixups of one area among others
abbrev filled_area : (Target → ℕ) → List Fixup → AreaName → List ℕ → List ℕ
filled_area number [] area bytes = bytes
filled_area number (fixup ∷ fixups) area bytes =
    filled_area number fixups area (if rank fixup.area == rank area then with_number fixup.place (number fixup.target) bytes else bytes)

area_of-filled : (number : Target → ℕ) (fixups : List Fixup) (contents : Areas (List ℕ)) (area : AreaName) →
    area_of area (filled number fixups contents) ≡ filled_area number fixups area (area_of area contents)
area_of-filled number [] contents area = refl
area_of-filled number (fixup ∷ fixups) contents area = area_of-filled number fixups (step number fixup contents) area
    ∙ ap (filled_area number fixups area) (area_of-step number fixup contents area)

filled_area-append : (number : Target → ℕ) (fixups others : List Fixup) (area : AreaName) (bytes : List ℕ) →
    filled_area number (fixups ++ others) area bytes ≡ filled_area number others area (filled_area number fixups area bytes)
filled_area-append number [] others area bytes = refl
filled_area-append number (fixup ∷ fixups) others area bytes =
    filled_area-append number fixups others area (if rank fixup.area == rank area then with_number fixup.place (number fixup.target) bytes
    else bytes)

-- fixups of other areas
filled_area-others : (number : Target → ℕ) (fixups : List Fixup) (area : AreaName) (bytes : List ℕ) →
    ((fixup : Fixup) → IsIn fixup fixups → rank fixup.area ≢ rank area) → filled_area number fixups area bytes ≡ bytes
filled_area-others number [] area bytes others = refl
filled_area-others number (fixup ∷ fixups) area bytes others =
    go (rank fixup.area == rank area) (λ e. others fixup (inl refl) (eqb-true (rank fixup.area) (rank area) e))
    (filled_area-others number fixups area bytes (λ f is. others f (inr is))) where
      go : (b : Bool) → b ≢ true → filled_area number fixups area bytes ≡ bytes →
          filled_area number fixups area (if b then with_number fixup.place (number fixup.target) bytes else bytes) ≡ bytes
      go true differs rest = absurd (differs refl)
      go false differs rest = rest

-- a word in place of two zeros
with_word-middle : (front rest : List ℕ) (place number : ℕ) → place ≡ length front →
    with_word (front ++ 0 ∷ 0 ∷ rest) place number ≡ (front ++ word number) ++ rest
with_word-middle front rest place number at =
    let high = number / 256 in let low = number % 256 in
    let long : length (front ++ high ∷ []) ≡ place + 1 = omega (arith, length-append front (high ∷ []), at) in
    ap (λ xs. set xs (place + 1) low) (set_at front 0 (0 ∷ rest) high place (sym at))
    ∙ ap (λ xs. set xs (place + 1) low) (sym (append_assoc front (high ∷ []) (0 ∷ rest)))
    ∙ set_at (front ++ high ∷ []) 0 rest low (place + 1) long ∙ append_assoc front (high ∷ []) (low ∷ rest)
    ∙ sym (append_assoc front (word number) rest)

with_number-middle : (front rest : List ℕ) (place number : ℕ) → place ≡ length front →
    with_number place number (front ++ 0 ∷ 0 ∷ rest) ≡ (front ++ word number) ++ rest
with_number-middle front rest place number at =
    let within : place + 1 < length (front ++ 0 ∷ 0 ∷ rest) = omega (arith, length-append front (0 ∷ 0 ∷ rest), at) in
    ap (λ b. if b then with_word (front ++ 0 ∷ 0 ∷ rest) place number else front ++ 0 ∷ 0 ∷ rest)
    (lt-ltb (place + 1) (length (front ++ 0 ∷ 0 ∷ rest)) within) ∙ with_word-middle front rest place number at

-- an area's own fixups
filled_area-cells : (number : Target → ℕ) (area : AreaName) (place : ℕ) (front : List ℕ) (cells : List Cell) → place ≡ length front
    → filled_area number (fixups_of area place cells) area (front ++ bytes_of cells) ≡ front ++ numbered number cells
filled_area-cells number area place front [] at = refl
filled_area-cells number area place front ((Cell.Byte byte) ∷ cells) at =
    ap (filled_area number (fixups_of area (place + 1) cells) area) (sym (append_assoc front (byte ∷ []) (bytes_of cells)))
    ∙ filled_area-cells number area (place + 1) (front ++ byte ∷ []) cells (omega (arith, length-append front (byte ∷ []), at))
    ∙ append_assoc front (byte ∷ []) (numbered number cells)
filled_area-cells number area place front ((Cell.Later target) ∷ cells) at =
    let rest = bytes_of cells in let left = fixups_of area (place + 2) cells in
    ap (λ b. filled_area number left area (if b then with_number place (number target) (front ++ 0 ∷ 0 ∷ rest) else front ++ 0 ∷ 0 ∷ rest))
    (eq-eqb (rank area) (rank area) refl) ∙ ap (filled_area number left area) (with_number-middle front rest place (number target) at)
    ∙ filled_area-cells number area (place + 2) (front ++ word (number target)) cells
    (omega (arith, length-append front (word (number target)), at)) ∙ append_assoc front (word (number target)) (numbered number cells)

-- the places of the fixups of cells
in_cells : (area : AreaName) (place : ℕ) (cells : List Cell) (fixup : Fixup) → IsIn fixup (fixups_of area place cells) →
    (fixup.area ≡ area) × (place ≤ fixup.place)
in_cells area place [] fixup is = elim is [ ]
in_cells area place ((Cell.Byte byte) ∷ cells) fixup is =
    let rest = in_cells area (place + 1) cells fixup is in (rest.0, omega (arith, rest.1))
in_cells area place ((Cell.Later target) ∷ cells) fixup (inl e) =
    (sym (ap (λ (f : Fixup). f.area) e), omega (arith, ap (λ (f : Fixup). f.place) e))
in_cells area place ((Cell.Later target) ∷ cells) fixup (inr is) =
    let rest = in_cells area (place + 2) cells fixup is in (rest.0, omega (arith, rest.1))

apart-cells : (area : AreaName) (place : ℕ) (cells : List Cell) → Apart (fixups_of area place cells)
apart-cells area place [] = tt
apart-cells area place ((Cell.Byte byte) ∷ cells) = apart-cells area (place + 1) cells
apart-cells area place ((Cell.Later target) ∷ cells) =
    ((λ other is same. inl (in_cells area (place + 2) cells other is).1), apart-cells area (place + 2) cells)

in_append : (fixups others : List Fixup) (fixup : Fixup) → IsIn fixup (fixups ++ others) → IsIn fixup fixups ⊎ IsIn fixup others
in_append [] others fixup is = inr is
in_append (first ∷ fixups) others fixup (inl e) = inl (inl e)
in_append (first ∷ fixups) others fixup (inr is) = elim (in_append fixups others fixup is) [ inl x ↦ inl (inr x) | inr x ↦ inr x ]

apart-append : (fixups others : List Fixup) → Apart fixups → Apart others →
    ((fixup other : Fixup) → IsIn fixup fixups → IsIn other others → AreApart fixup other) → Apart (fixups ++ others)
apart-append [] others apart apart_others between = apart_others
apart-append (first ∷ fixups) others apart apart_others between = (
  (λ other is. elim (in_append fixups others other is) [ inl x ↦ apart.0 other x | inr x ↦ between first other (inl refl) x ]),
  apart-append fixups others apart.1 apart_others (λ fixup other is is_other. between fixup other (inr is) is_other),
)

-- the fixups of some areas of cells, of which each has a higher rank than the one before
abbrev fixups_in : Areas (List Cell) → List AreaName → List Fixup
fixups_in cells names = flat_map (λ area. fixups_of area 0 (area_of area cells)) names

abbrev Rises : ℕ → List AreaName → Type 0
Rises from [] = Unit {0}
Rises from (area ∷ names) = (from ≤ rank area) × Rises (rank area + 1) names

in_areas : (cells : Areas (List Cell)) (from : ℕ) (names : List AreaName) (fixup : Fixup) → Rises from names →
    IsIn fixup (fixups_in cells names) → from ≤ rank fixup.area
in_areas cells from [] fixup rises is = elim is [ ]
in_areas cells from (area ∷ names) fixup rises is =
    elim (in_append (fixups_of area 0 (area_of area cells)) (fixups_in cells names) fixup is) [
      | inl x ↦
          let here : rank fixup.area ≡ rank area = ap rank (in_cells area 0 (area_of area cells) fixup x).0 in
          omega (arith, rises.0)
      | inr x ↦
          let there : rank area + 1 ≤ rank fixup.area = in_areas cells (rank area + 1) names fixup rises.1 x in
          omega (arith, rises.0)
    ]

apart-areas : (cells : Areas (List Cell)) (from : ℕ) (names : List AreaName) → Rises from names → Apart (fixups_in cells names)
apart-areas cells from [] rises = tt
apart-areas cells from (area ∷ names) rises =
    apart-append (fixups_of area 0 (area_of area cells)) (fixups_in cells names) (apart-cells area 0 (area_of area cells))
    (apart-areas cells (rank area + 1) names rises.1) (λ fixup other is is_other same.
    let here : rank fixup.area ≡ rank area = ap rank (in_cells area 0 (area_of area cells) fixup is).0 in
    let there : rank area + 1 ≤ rank other.area = in_areas cells (rank area + 1) names other rises.1 is_other in
    absurd (omega (arith, ap rank same)))

itself : (n : ℕ) → n ≤ n
itself n = omega arith

order_rises : Rises 0 order
order_rises = (
  itself 0,
  (
    itself 1,
    (
      itself 2,
      (
        itself 3,
        (
          itself 4,
          (itself 5, (itself 6, (itself 7, (itself 8, (itself 9, (itself 10, (itself 11, (itself 12, (itself 13, (itself 14, tt)))))))))),
        ),
      ),
    ),
  ),
)

-- whether an area is in a list
abbrev has : AreaName → List AreaName → Bool
has area [] = false
has area (other ∷ names) = if rank other == rank area then true else has area names

has_each : (area : AreaName) → has area order ≡ true
has_each AreaName.LowStrings = refl
has_each AreaName.Abbreviations = refl
has_each AreaName.PropertyDefaults = refl
has_each AreaName.Objects = refl
has_each AreaName.PropertyTables = refl
has_each AreaName.ClassNumbers = refl
has_each AreaName.IndividualTables = refl
has_each AreaName.Globals = refl
has_each AreaName.Arrays = refl
has_each AreaName.Grammar = refl
has_each AreaName.Actions = refl
has_each AreaName.ParsingRoutines = refl
has_each AreaName.Dictionary = refl
has_each AreaName.Code = refl
has_each AreaName.Strings = refl

filled_area-areas : (number : Target → ℕ) (cells : Areas (List Cell)) (area : AreaName) (from : ℕ) (names : List AreaName) →
    Rises from names → has area names ≡ true
    → filled_area number (fixups_in cells names) area (bytes_of (area_of area cells)) ≡ numbered number (area_of area cells)
filled_area-areas number cells area from [] rises is = absurd (cc is)
filled_area-areas number cells area from (other ∷ names) rises is =
    filled_area-append number (fixups_of other 0 (area_of other cells)) (fixups_in cells names) area (bytes_of (area_of area cells))
    ∙ go (rank other == rank area) refl is (filled_area-areas number cells area (rank other + 1) names rises.1) where
      bytes : List ℕ
      bytes = bytes_of (area_of area cells)

      goal : Type 0
      goal = filled_area number (fixups_in cells names) area (filled_area number (fixups_of other 0 (area_of other cells)) area bytes) ≡
          numbered number (area_of area cells)

      go : (b : Bool) → (rank other == rank area) ≡ b → (if b then true else has area names) ≡ true
          → (has area names ≡ true → filled_area number (fixups_in cells names) area bytes ≡ numbered number (area_of area cells)) → goal
      go true here found rest =
          let same : rank other ≡ rank area = eqb-true (rank other) (rank area) here in
          ap (λ o. filled_area number (fixups_in cells names) area (filled_area number (fixups_of o 0 (area_of o cells)) area bytes))
          (rank-same other area same)
          ∙ ap (filled_area number (fixups_in cells names) area) (filled_area-cells number area 0 [] (area_of area cells) refl)
          ∙ filled_area-others number (fixups_in cells names) area (numbered number (area_of area cells))
          (λ fixup isf e. let behind : rank other + 1 ≤ rank fixup.area = in_areas cells (rank other + 1) names fixup rises.1 isf in omega
          (arith, e, same))
      go false there found rest = ap (filled_area number (fixups_in cells names) area)
          (filled_area-others number (fixups_of other 0 (area_of other cells)) area bytes (λ fixup isf e. absurd (cc (
            there,
            eq-eqb (rank other) (rank area) (sym (ap rank (in_cells other 0 (area_of other cells) fixup isf).0) ∙ e),
          )))) ∙ rest found

-- areas of cells where the fixups of all are filled
filled-cells : (number : Target → ℕ) (cells : Areas (List Cell)) →
    filled number (cells_fixups cells) (cells_contents cells) ≡ by_name (λ area. numbered number (area_of area cells))
filled-cells number cells = by_name-same (λ area. area_of area (filled number (cells_fixups cells) (cells_contents cells)))
    (λ area. numbered number (area_of area cells)) (λ area. area_of-filled number (cells_fixups cells) (cells_contents cells) area
    ∙ ap (filled_area number (cells_fixups cells) area) (area_of-by_name (λ n. bytes_of (area_of n cells)) area)
    ∙ filled_area-areas number cells area 0 order order_rises (has_each area))

pub sizes-cells : (cells : Areas (List Cell)) → lengths (cells_contents cells) ≡ cells_sizes cells
sizes-cells cells = by_name-same (λ area. length (area_of area (cells_contents cells))) (λ area. size_of (area_of area cells))
    (λ area. ap length (area_of-by_name (λ n. bytes_of (area_of n cells)) area) ∙ length-bytes_of (area_of area cells))

length-numbered : (number : Target → ℕ) (cells : List Cell) → length (numbered number cells) ≡ size_of cells
length-numbered number [] = refl
length-numbered number ((Cell.Byte byte) ∷ cells) = omega (arith, length-numbered number cells)
length-numbered number ((Cell.Later target) ∷ cells) = omega (arith, length-numbered number cells)

-- numbers that are known later take as many bytes as were kept for them
pub sizes-numbered : (number : Target → ℕ) (cells : Areas (List Cell)) →
    lengths (by_name (λ name. numbered number (area_of name cells))) ≡ cells_sizes cells
sizes-numbered number cells = by_name-same (λ area. length (area_of area (by_name (λ name. numbered number (area_of name cells)))))
    (λ area. size_of (area_of area cells))
    (λ area. ap length (area_of-by_name (λ name. numbered number (area_of name cells)) area) ∙ length-numbered number (area_of area cells))

-- areas of cells give their story, with the fixups in the order of the cells
pub cells_in_order : (cells : Areas (List Cell)) (targets : Lookup) (fields : HeaderFields) →
    story (cells_contents cells) (cells_fixups cells) targets fields ≡ cells_story cells targets fields
unfolding filled_areas
cells_in_order cells targets fields =
    let numbers = λ (sizes : Areas ℕ). number_of targets fields.scale (map_of sizes fields.scale).bases in
    ap (λ areas. story_of areas fields) (filled-cells (numbers (lengths (cells_contents cells))) cells ∙ ap
    (λ sizes. by_name (λ area. numbered (numbers sizes) (area_of area cells))) (sizes-cells cells))

pub cells_come_out_as_numbers : CellsComeOutAsNumbers
unfolding filled_areas
cells_come_out_as_numbers cells fixups targets fields apart same =
    let numbers = λ (sizes : Areas ℕ). number_of targets fields.scale (map_of sizes fields.scale).bases in
    let number = numbers (lengths (cells_contents cells)) in
    ap (λ areas. story_of areas fields)
    (filled-any_order number (cells_fixups cells) fixups (cells_contents cells) (apart-areas cells 0 order order_rises)
    (all_apart fixups apart) (in_same (cells_fixups cells) fixups same) (in_same_back (cells_fixups cells) fixups same)
    ∙ filled-cells number cells ∙ ap (λ sizes. by_name (λ area. numbered (numbers sizes) (area_of area cells))) (sizes-cells cells))
