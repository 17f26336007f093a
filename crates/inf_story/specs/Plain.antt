-- The story of a source that filled no table: the first four objects, which are the classes that the language has, and an empty
-- empty dictionary.
use Rattle.std.specs.Prelude.{◌≡◌, ℕ, ◌+◌, ◌/◌, List, [], ◌∷◌, ◌++◌, length, map, replicate, codes, flat_map}
use Rattle.inf_area.specs.declared.{cells.Cell.Cell, targets.AreaName.AreaName, targets.Target.Target, targets.Value.Value}
use Rattle.inf_characters.specs.declared.texts.TextItem.{TextItem}
use Rattle.inf_code.specs.Code.{code_cells, known}
use Rattle.inf_link.specs.{Targets.Lookup, declared.areas.Areas.Areas}
use Rattle.inf_story.specs.Tables.{abbreviations, areas, looked_up, low_strings}
use Rattle.inf_tables.specs.Tables.{no_tables}
use Rattle.inf_text.specs.Packing.{packed}

-- 63 words 0 (section 12.2)
unfoldable pub property_defaults : List Cell
property_defaults = known (replicate 126 0)

abbrev pub object_names : List (List ℕ)
object_names = codes "Class" ∷ codes "Object" ∷ codes "Routine" ∷ codes "String" ∷ []

-- an object with no attributes and no relatives: six bytes, three words, and where its table is (section 12.3.2)
abbrev pub object : ℕ → List Cell
object number = replicate 12 (Cell.Byte 0) ++ Cell.Later (Target.Part AreaName.PropertyTables number) ∷ []

unfoldable pub objects : List Cell
objects = object 0 ++ object 1 ++ object 2 ++ object 3

-- the table of an object with no properties: the length of its name in words, the name, and 0 (section 12.4)
abbrev pub property_table : List ℕ → List ℕ
property_table name =
    let text = packed (map TextItem.Character name) [] in (length text / 2) ∷ text ++ 0 ∷ []

unfoldable pub property_tables : List Cell
property_tables = known (flat_map property_table object_names)

-- where they begin, one behind the other
abbrev pub places_from : ℕ → List (List ℕ) → List ℕ
places_from place [] = []
places_from place (name ∷ names) = place ∷ places_from (place + length (property_table name)) names

unfoldable pub table_places : List ℕ
table_places = places_from 0 object_names

-- no classes, and the end of their numbers
unfoldable pub class_numbers : List Cell
class_numbers = known (0 ∷ 0 ∷ [])

-- 240 words 0 (section 6.2)
unfoldable pub globals : List Cell
globals = known (replicate 480 0)

-- no entries, with three separators (section 13.2)
unfoldable pub dictionary : List Cell
dictionary = known (3 ∷ codes ".,\"" ++ 9 ∷ 0 ∷ 0 ∷ [])

abbrev pub plain_areas : ℕ → List Cell → List ℕ → Areas (List Cell)
plain_areas main finished strings = record {
  low_strings = low_strings [];
  abbreviations = abbreviations [];
  property_defaults = property_defaults;
  objects = objects;
  property_tables = property_tables;
  class_numbers = class_numbers;
  individual_tables = [];
  globals = globals;
  arrays = [];
  grammar = [];
  actions = [];
  parsing_routines = [];
  dictionary = dictionary;
  code = code_cells (Target.Place AreaName.Code main) finished;
  strings = known strings;
}

-- No object has an individual table, and each would begin at the front of the area.
abbrev pub plain_lookup : List Value → Lookup
plain_lookup names =
    record { names = names; property_tables = table_places; individual_tables = replicate 4 0; verbs = []; words = []; last_object = 4 }

abbrev pub TablesArePlain : Type 0
TablesArePlain = (main : ℕ) (finished : List Cell) (strings : List ℕ)
    → areas main finished strings no_tables ≡ plain_areas main finished strings

abbrev pub LookupIsPlain : Type 0
LookupIsPlain = (names : List Value) → looked_up names no_tables ≡ plain_lookup names
