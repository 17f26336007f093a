-- The items of a source that add entries, by those of the code.
use Rattle.inf_arrays.specs.{Arrays.Adding, Arrays.Characters, Arrays.One, Arrays.Zeros, declared.arrays.Entries.Entries}

abbrev pub added : Entries → Adding
added (Entries.One v) = One v
added (Entries.Zeros count) = Zeros count
added (Entries.Characters text) = Characters text.now
