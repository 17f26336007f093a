-- The areas of a story. Z-Machine Standard 1.1, section 1.1 and the sections named below.
use Rattle.std.specs.Prelude.{ℕ, ◌-◌, ◌%◌, List, [], ◌++◌, length, map, replicate, codes}
use Rattle.inf_area.specs.{Cells.values_cells, declared.cells.Cell.Cell, declared.targets.AreaName.AreaName, declared.targets.Target.Target}
use Rattle.inf_area.specs.{declared.targets.Value.Value}
use Rattle.inf_arrays.specs.{Arrays.all_of, Arrays.arrays_cells, Globals.globals_cells}
use Rattle.inf_characters.specs.declared.texts.TextItem.{TextItem}
use Rattle.inf_code.specs.Code.{code_cells, known}
use Rattle.inf_dictionary.specs.{Texts.texts_of, Words.dictionary_bytes}
use Rattle.inf_link.specs.{Targets.Lookup, declared.areas.Areas.Areas}
use Rattle.inf_text.specs.Packing.{packed}
use Rattle.inf_verbs.specs.{Routines.routines_cells, Verbs.grammar_cells, Verbs.places_of}
use Rattle.inf_tables.specs.{Tables.AllTables, World.object_count, declared.kinds.WorldArea.WorldArea}
use Rattle.inf_tables.specs.Areas.{all_objects, area_cells, individual_places_from, table_places_from}

-- the first low string, three spaces (section 3.3), and those behind it
unfoldable pub three_spaces : List ℕ
three_spaces = packed (map TextItem.Character (codes "   ")) []

abbrev pub low_strings : List ℕ → List Cell
low_strings behind = known (three_spaces ++ behind)

-- An abbreviation that is not declared is the first low string, whose address in words is 32 (section 3.3). One that is declared is known
-- by the place of its own.
abbrev pub undeclared : ℕ → List Cell
undeclared count = values_cells (replicate count (Value.Known 32))

abbrev pub declared_at : ℕ → Cell
declared_at place = Cell.Later (Target.Place AreaName.LowStrings place)

-- The 96 abbreviations: behind a bank of 32 those that are declared at these places, and the rest.
unfoldable pub abbreviations : List ℕ → List Cell
abbreviations places = undeclared 32 ++ map declared_at places ++ undeclared (64 - length places)

-- All areas: those of the tables of a source, the finished routines, of which the first routine calls the one at a place, and the bytes of
-- the strings.
abbrev pub areas : ℕ → List Cell → List ℕ → AllTables → Areas (List Cell)
areas main finished strings tables = record {
  low_strings = low_strings tables.low_strings.bytes;
  abbreviations = abbreviations tables.low_strings.abbreviations;
  property_defaults = area_cells WorldArea.PropertyDefaults tables.world;
  objects = area_cells WorldArea.Objects tables.world;
  property_tables = area_cells WorldArea.PropertyTables tables.world;
  class_numbers = area_cells WorldArea.ClassNumbers tables.world;
  individual_tables = area_cells WorldArea.IndividualTables tables.world;
  globals = globals_cells tables.globals;
  arrays = arrays_cells (all_of tables.arrays);
  grammar = grammar_cells tables.verbs.list;
  actions = routines_cells tables.actions.routines;
  parsing_routines = routines_cells tables.parsing;
  dictionary = known (dictionary_bytes tables.dictionary.list);
  code = code_cells (Target.Place AreaName.Code main) finished;
  strings = known strings;
}

-- the tables in which targets are looked up, with the values of the names; the number of the last object is the count of objects
abbrev pub looked_up : List Value → AllTables → Lookup
looked_up names tables = record {
  names = names;
  property_tables = table_places_from 0 0 (all_objects tables.world.objects);
  individual_tables = individual_places_from 0 (all_objects tables.world.objects);
  verbs = places_of tables.verbs.list;
  words = texts_of tables.dictionary.list;
  last_object = object_count tables.world % 65536;
}
