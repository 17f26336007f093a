-- The arrays of a story, by those of the code.
use Rattle.std.specs.Prelude.{List, Option, map, option_map}
use Rattle.inf_arrays.specs.{Arrays.AllArrays, Arrays.Listed, declared.arrays.Array.Array}

abbrev pub listed : Array → Listed
listed array = record { kind = array.kind; entries = array.entries.items }

abbrev pub seen : List Array → Option Array → AllArrays
seen closed last = record { closed = map listed closed; open_one = option_map listed last }
