-- The fixups of all areas.
use Rattle.std.proofs.Common.{◌≡◌, ℕ, List, ◌∷◌, [], ◌++◌, append-nil, append_assoc, refl, sym, ap, ◌∙◌}
use Rattle.inf_area.specs.{declared.cells.Cell.Cell, declared.fixups.Fixup.Fixup, declared.targets.AreaName.AreaName}
use Rattle.inf_area.specs.Cells.{bytes_of, fixups_of}
use Rattle.inf_area.proofs.Joining.{bytes_of-known, fixups_of-known}
use Rattle.inf_code.specs.Code.{known}
use Rattle.inf_dictionary.specs.Words.{dictionary_bytes}
use Rattle.inf_link.specs.{Areas.area_of, FillingLaws.cells_fixups}
use Rattle.inf_story.specs.Tables.{areas, low_strings, three_spaces}
use Rattle.inf_text.specs.Packing.{packed, longest, character_zs}
use Rattle.inf_tables.specs.Tables.{AllTables}

-- lists that are put behind others, one after the other
abbrev put : List Fixup → List (List Fixup) → List Fixup
put done [] = done
put done (xs ∷ lists) = put (done ++ xs) lists

abbrev all : List (List Fixup) → List Fixup
all [] = []
all (xs ∷ lists) = xs ++ all lists

put_all : (done : List Fixup) (lists : List (List Fixup)) → put done lists ≡ done ++ all lists
put_all done [] = sym (append-nil done)
put_all done (xs ∷ lists) = put_all (done ++ xs) lists ∙ append_assoc done xs (all lists)

-- the fixups of the areas that are written with fixups
abbrev written : (AreaName → List Fixup) → List (List Fixup)
written fixups =
    fixups AreaName.Abbreviations ∷ fixups AreaName.PropertyDefaults ∷ fixups AreaName.Objects ∷ fixups AreaName.PropertyTables ∷ fixups
    AreaName.ClassNumbers
    ∷ fixups AreaName.IndividualTables ∷ fixups AreaName.Globals ∷ fixups AreaName.Arrays ∷ fixups AreaName.Grammar ∷ fixups
    AreaName.Actions ∷ fixups AreaName.ParsingRoutines ∷ fixups AreaName.Code ∷ []

-- all fixups, with those of the areas that are known bytes
abbrev whole : (AreaName → List Fixup) → List Fixup → List Fixup → List Fixup → List Fixup
whole fixups low words strings =
    low ++ all (fixups AreaName.Abbreviations ∷ fixups AreaName.PropertyDefaults ∷ fixups AreaName.Objects ∷ fixups
    AreaName.PropertyTables ∷ fixups AreaName.ClassNumbers
    ∷ fixups AreaName.IndividualTables ∷ fixups AreaName.Globals ∷ fixups AreaName.Arrays ∷ fixups AreaName.Grammar ∷ fixups
    AreaName.Actions ∷ fixups AreaName.ParsingRoutines ∷ words ∷ fixups AreaName.Code ∷ strings ∷ [])

all_written : (fixups : AreaName → List Fixup) → put [] (written fixups) ≡ whole fixups [] [] []
all_written fixups = put_all [] (written fixups)

none_low : (behind : List ℕ) → [] ≡ fixups_of AreaName.LowStrings 0 (low_strings behind)
none_low behind = sym (fixups_of-known AreaName.LowStrings 0 (three_spaces ++ behind))

abbrev fixups_in : ℕ → List Cell → List ℕ → AllTables → AreaName → List Fixup
fixups_in main finished strings tables name = fixups_of name 0 (area_of name (areas main finished strings tables))

pub all_fixups : (main : ℕ) (finished : List Cell) (strings : List ℕ) (tables : AllTables)
    → put [] (written (fixups_in main finished strings tables)) ≡ cells_fixups (areas main finished strings tables)
all_fixups main finished strings tables =
    let fixups = fixups_in main finished strings tables in let words = dictionary_bytes tables.dictionary.list in
    all_written fixups ∙ ap (λ low. whole fixups low [] []) (none_low tables.low_strings.bytes)
    ∙ ap (λ none. whole fixups (fixups AreaName.LowStrings) none []) (sym (fixups_of-known AreaName.Dictionary 0 words))
    ∙ ap (λ none. whole fixups (fixups AreaName.LowStrings) (fixups AreaName.Dictionary) none)
    (sym (fixups_of-known AreaName.Strings 0 strings))

-- bytes as cells
pub known_bytes : (bytes : List ℕ) → bytes_of (known bytes) ≡ bytes
known_bytes bytes = bytes_of-known bytes

spaces_are : 0x80 ∷ 0x00 ∷ [] ≡ three_spaces
unfolding three_spaces packed longest character_zs
spaces_are = refl

pub low_are : (behind : List ℕ) → (0x80 ∷ 0x00 ∷ []) ++ behind ≡ bytes_of (low_strings behind)
low_are behind = ap (λ first. first ++ behind) spaces_are ∙ sym (bytes_of-known (three_spaces ++ behind))
