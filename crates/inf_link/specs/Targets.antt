-- Numbers that are known once a story is laid out. Z-Machine Standard 1.1, sections 1.2.2 and 1.2.3; Designer's Manual,
-- fourth edition, section 39.
use Rattle.std.specs.{Cmp.Lexicographic.slice_cmp, Ordering.is_lt, Ordering.nat_cmp}
use Rattle.std.specs.Prelude.{ℕ, ◌+◌, ◌*◌, ◌/◌, ◌%◌, List, [], ◌∷◌, if◌then◌else◌, Bool, Option, Some, None, slice_get}
use Rattle.inf_area.specs.{Scales.scale_number, declared.scale.Scale.Scale, declared.targets.AreaName.AreaName}
use Rattle.inf_area.specs.{declared.targets.SystemConstant.SystemConstant, declared.targets.Target.Target, declared.targets.Value.Value}
use Rattle.inf_link.specs.{Areas.area_of, declared.areas.Areas.Areas, declared.targets.Targets.Targets}

-- the text of a word: six bytes
abbrev pub Text : Type 0
Text = List ℕ

-- The table in which targets are looked up: the value of each name of the source, the places where the parts of areas
-- begin, the texts of the words, and the number of the last object.
pub record Lookup : Type 0 where
  pub names : List Value
  pub property_tables : List ℕ
  pub individual_tables : List ℕ
  pub verbs : List ℕ
  pub words : List Text
  pub last_object : ℕ

abbrev pub lookup : Targets → Lookup
lookup targets = record {
  names = targets.names.items;
  property_tables = targets.property_tables.items;
  individual_tables = targets.individual_tables.items;
  verbs = targets.verbs.items;
  words = targets.words.items;
  last_object = targets.last_object;
}

abbrev pub is_below : Text → Text → Bool
is_below a b = is_lt (slice_cmp nat_cmp a b)

-- the number of words with texts below a text: the place of the word with this text, where words are in rising order
abbrev pub rank_of : Text → List Text → ℕ
rank_of text [] = 0
rank_of text (word ∷ words) = if is_below word text then rank_of text words + 1 else rank_of text words

-- the number that the address of a place is divided by: low strings have addresses in words, code and strings packed ones
abbrev pub divisor : Scale → AreaName → ℕ
divisor scale AreaName.LowStrings = 2
divisor scale AreaName.Code = scale_number scale
divisor scale AreaName.Strings = scale_number scale
divisor scale other = 1

abbrev pub place_number : Scale → Areas ℕ → AreaName → ℕ → ℕ
place_number scale bases area place = (area_of area bases + place) / divisor scale area

-- the places where the parts of an area begin, in bytes from its front
abbrev pub part_of : Lookup → AreaName → List ℕ
part_of targets AreaName.PropertyTables = targets.property_tables
part_of targets AreaName.IndividualTables = targets.individual_tables
part_of targets AreaName.Grammar = targets.verbs
part_of targets other = []

abbrev pub system_number : Lookup → Scale → Areas ℕ → SystemConstant → ℕ
system_number targets scale bases SystemConstant.GrammarTable = bases.grammar
system_number targets scale bases SystemConstant.ActionsTable = bases.actions
system_number targets scale bases SystemConstant.PreactionsTable = bases.parsing_routines
system_number targets scale bases SystemConstant.DictionaryTable = bases.dictionary
system_number targets scale bases SystemConstant.ClassesTable = bases.class_numbers
system_number targets scale bases SystemConstant.GlobalsArray = bases.globals
system_number targets scale bases SystemConstant.ReadableMemoryOffset = bases.code
system_number targets scale bases SystemConstant.CodeOffset = bases.code / scale_number scale
system_number targets scale bases SystemConstant.StringsOffset = bases.strings / scale_number scale
system_number targets scale bases SystemConstant.HighestObjectNumber = targets.last_object

-- the number of a place in an area, if there is one
abbrev pub place_found : Scale → Areas ℕ → AreaName → Option ℕ → ℕ
place_found scale bases area None = 0
place_found scale bases area (Some place) = place_number scale bases area place

-- The number of a target that is no name. The dictionary's words begin behind 7 bytes and have 9 each (section 13.2).
abbrev pub direct_number : Lookup → Scale → Areas ℕ → Target → ℕ
direct_number targets scale bases (Target.Name number) = 0
direct_number targets scale bases (Target.Place area place) = place_number scale bases area place
direct_number targets scale bases (Target.Part area part) = place_found scale bases area (slice_get (part_of targets area) part)
direct_number targets scale bases (Target.Word text) = bases.dictionary + 7 + 9 * rank_of text targets.words
direct_number targets scale bases (Target.System asked) = system_number targets scale bases asked

-- the number of the value of a name, if there is one
abbrev pub value_found : Lookup → Scale → Areas ℕ → Option Value → ℕ
value_found targets scale bases None = 0
value_found targets scale bases (Some (Value.Known number)) = number
value_found targets scale bases (Some (Value.Later target)) = direct_number targets scale bases target

-- the number of a target, where areas begin at `bases`
abbrev pub number_of : Lookup → Scale → Areas ℕ → Target → ℕ
number_of targets scale bases (Target.Name number) = value_found targets scale bases (slice_get targets.names number) % 65536
number_of targets scale bases other = direct_number targets scale bases other % 65536
