-- The symbols put so far come behind those that stay, and there is room for the rest.
use Rattle.std.proofs.Common.{◌≡◌, ◌≤◌, ◌+◌, ◌++◌, length, take, vec_capacity}
use Rattle.inf_machine.proofs.rest.replace.Given as goal

abbrev pub invariant-loop-other : goal.invariant-loop-other
invariant-loop-other g l = record {
  items : l.symbols.items ≡ take l.below l.initial.symbols.items ++ take l.other-index l.others;
  room : length (take l.below l.initial.symbols.items) + length l.others ≤ vec_capacity l.symbols;
}
