-- The actions so far come behind those that were there before, and there is room for the rest.
use Rattle.std.proofs.Common.{◌≡◌, ◌≤◌, ◌+◌, ◌++◌, length, take, vec_capacity}
use Rattle.inf_machine.proofs.rest.add_all.Given as goal

abbrev pub invariant-loop-other : goal.invariant-loop-other
invariant-loop-other g l = record {
  items : l.actions.items ≡ l.initial.actions.items ++ take l.other-index l.others;
  room : length l.initial.actions.items + length l.others ≤ vec_capacity l.actions;
}
