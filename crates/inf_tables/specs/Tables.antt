-- The tables of a story, as far as they are filled.
use Rattle.std.specs.Prelude.{ℕ, List, ◌+◌, ◌-◌, min, [], length}
use Rattle.inf_area.specs.declared.targets.Value.{Value}
use Rattle.inf_arrays.specs.{Arrays.AllArrays, Arrays.all_of, Arrays.arrays_laters, Arrays.no_arrays, Kinds.laters}
use Rattle.inf_dictionary.specs.Words.{Words}
use Rattle.inf_verbs.specs.{Routines.AllActions, Verbs.AllVerbs, Verbs.verbs_laters}
use Rattle.inf_tables.specs.{LowStrings.LowArea, LowStrings.no_low_strings, World.WorldOf, World.fixups_now, World.no_world}

-- all tables, one of each kind
pub record AllTables : Type 0 where
  pub dictionary : Words
  pub arrays : AllArrays
  pub globals : List Value
  pub world : WorldOf
  pub verbs : AllVerbs
  pub actions : AllActions
  pub parsing : List ℕ
  pub low_strings : LowArea

-- the tables of a source that has filled none yet
abbrev pub no_tables : AllTables
no_tables = record {
  dictionary = record { list = [] };
  arrays = no_arrays;
  globals = [];
  world = no_world;
  verbs = record { list = [] };
  actions = record { routines = []; fakes = 0 };
  parsing = [];
  low_strings = no_low_strings;
}

-- a count and another one: no number of the program is above the greatest
unfoldable pub more : ℕ → ℕ → ℕ
more count other = min (count + other) 18446744073709551615

-- The number of values in the tables that are known when the story is laid out: in the world as if the open body ended here, first values
-- of variables, entries of arrays, addresses of verbs' lines and of prepositions, and one for each action, each routine that parses and
-- each abbreviation. The addresses of the tables of the first four objects are not counted here: code keeps as many back from its limit.
abbrev pub references : AllTables → ℕ
references t = more (more (more (fixups_now t.world - 4) (laters t.globals)) (arrays_laters (all_of t.arrays)))
    (more (more (verbs_laters t.verbs.list) (more (length t.actions.routines) (length t.parsing))) (length t.low_strings.abbreviations))

-- the references of all tables, with `others` more
abbrev pub references_with : ℕ → AllTables → ℕ
references_with others t = more others (references t)
