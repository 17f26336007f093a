-- The actions so far, with those of the rest of the row, are those of the whole row.
use Rattle.std.proofs.Common.{◌≡◌, ◌++◌, reverse, take, length}
use Rattle.inf_machine.specs.Machine.{acts_of}
use Rattle.inf_machine.proofs.rest.act.Given as goal

abbrev pub invariant-loop-part : goal.invariant-loop-part
invariant-loop-part g l = record {
  actions : l.actions.items ++ acts_of (reverse l.left) ≡ l.initial.actions.items ++ acts_of (reverse l.row);
  before : take (length l.initial.actions.items) l.actions.items ≡ l.initial.actions.items;
}

abbrev pub decreases-loop-part : goal.decreases-loop-part
decreases-loop-part g l = length l.left
