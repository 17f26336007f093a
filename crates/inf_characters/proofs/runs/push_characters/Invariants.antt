-- The characters so far come behind those that were there before, and there is room for the rest.
use Rattle.std.proofs.Common.{◌≡◌, ◌≤◌, ◌+◌, ◌++◌, length, take, vec_capacity}
use Rattle.inf_characters.specs.Runs.{characters}
use Rattle.inf_characters.proofs.runs.push_characters.Given as goal

abbrev pub invariant-loop-byte : goal.invariant-loop-byte
invariant-loop-byte l = record {
  items : l.items.items ≡ l.initial.items.items ++ characters (take l.byte-index l.bytes);
  room : length l.initial.items.items + length l.bytes ≤ vec_capacity l.items;
}
