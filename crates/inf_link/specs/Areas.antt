-- The areas of a story, by their names.
use Rattle.std.specs.Prelude.{ℕ, List, [], ◌∷◌, length, Bool, true, false}
use Rattle.inf_area.specs.declared.targets.AreaName.{AreaName}
use Rattle.inf_link.specs.declared.areas.Areas.{Areas}

-- the value of the area with a name
abbrev pub area_of : {T : Type 0} → AreaName → Areas T → T
area_of AreaName.LowStrings areas = areas.low_strings
area_of AreaName.Abbreviations areas = areas.abbreviations
area_of AreaName.PropertyDefaults areas = areas.property_defaults
area_of AreaName.Objects areas = areas.objects
area_of AreaName.PropertyTables areas = areas.property_tables
area_of AreaName.ClassNumbers areas = areas.class_numbers
area_of AreaName.IndividualTables areas = areas.individual_tables
area_of AreaName.Globals areas = areas.globals
area_of AreaName.Arrays areas = areas.arrays
area_of AreaName.Grammar areas = areas.grammar
area_of AreaName.Actions areas = areas.actions
area_of AreaName.ParsingRoutines areas = areas.parsing_routines
area_of AreaName.Dictionary areas = areas.dictionary
area_of AreaName.Code areas = areas.code
area_of AreaName.Strings areas = areas.strings

-- a value for each area, by its name
abbrev pub by_name : {T : Type 0} → (AreaName → T) → Areas T
by_name f = record {
  low_strings = f AreaName.LowStrings;
  abbreviations = f AreaName.Abbreviations;
  property_defaults = f AreaName.PropertyDefaults;
  objects = f AreaName.Objects;
  property_tables = f AreaName.PropertyTables;
  class_numbers = f AreaName.ClassNumbers;
  individual_tables = f AreaName.IndividualTables;
  globals = f AreaName.Globals;
  arrays = f AreaName.Arrays;
  grammar = f AreaName.Grammar;
  actions = f AreaName.Actions;
  parsing_routines = f AreaName.ParsingRoutines;
  dictionary = f AreaName.Dictionary;
  code = f AreaName.Code;
  strings = f AreaName.Strings;
}

-- the areas behind the header, in their order (section 1.1)
abbrev pub order : List AreaName
order = AreaName.LowStrings ∷ AreaName.Abbreviations ∷ AreaName.PropertyDefaults ∷ AreaName.Objects ∷ AreaName.PropertyTables ∷
    AreaName.ClassNumbers
    ∷ AreaName.IndividualTables ∷ AreaName.Globals ∷ AreaName.Arrays ∷ AreaName.Grammar ∷ AreaName.Actions ∷ AreaName.ParsingRoutines ∷
    AreaName.Dictionary ∷ AreaName.Code ∷ AreaName.Strings ∷ []

-- the number of areas before one
abbrev pub rank : AreaName → ℕ
rank AreaName.LowStrings = 0
rank AreaName.Abbreviations = 1
rank AreaName.PropertyDefaults = 2
rank AreaName.Objects = 3
rank AreaName.PropertyTables = 4
rank AreaName.ClassNumbers = 5
rank AreaName.IndividualTables = 6
rank AreaName.Globals = 7
rank AreaName.Arrays = 8
rank AreaName.Grammar = 9
rank AreaName.Actions = 10
rank AreaName.ParsingRoutines = 11
rank AreaName.Dictionary = 12
rank AreaName.Code = 13
rank AreaName.Strings = 14

-- whether the contents of an area have packed addresses, which makes the area begin at a multiple of their scale (section 1.2.3)
abbrev pub is_packed : AreaName → Bool
is_packed AreaName.Code = true
is_packed AreaName.Strings = true
is_packed other = false

-- the bytes of areas, each of which has bytes
abbrev pub contents : {A : Type 0} → (A → List ℕ) → Areas A → Areas (List ℕ)
contents bytes areas = by_name (λ name. bytes (area_of name areas))

abbrev pub lengths : Areas (List ℕ) → Areas ℕ
lengths contents = by_name (λ name. length (area_of name contents))
