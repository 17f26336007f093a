use Rattle.std.proofs.Common.{◌≡◌, ◌++◌, drop, length}
use Rattle.inf_arrays.specs.Arrays.{characters}
use Rattle.inf_arrays.proofs.arrays.characters.Given as goal

abbrev pub invariant-loop-character : goal.invariant-loop-character
invariant-loop-character l =
    (l.values.items ++ characters (drop l.character-index l.text) ≡ characters l.text) × (length l.values.items ≡ l.character-index)
