-- The token taken from here on, behind the actions so far, gives the result of taking it from the start.
use Rattle.std.proofs.Common.{◌≡◌, ◌++◌, true}
use Rattle.inf_machine.specs.Machine.{fits, taken, work}
use Rattle.inf_machine.proofs.opening.reach.Given as goal

abbrev pub invariant-loop-symbol : goal.invariant-loop-symbol
invariant-loop-symbol g l = record {
  fits_on : fits g.T.Table.grammar g.T.Table.known l.atom l.stack ≡ true;
  actions : l.actions.items ++ (taken g.T.Table.grammar g.T.Table.known l.atom l.stack).actions ≡ l.initial.actions.items ++
      (taken g.T.Table.grammar g.T.Table.known l.atom l.initial.stack).actions;
  left : (taken g.T.Table.grammar g.T.Table.known l.atom l.stack).left ≡
      (taken g.T.Table.grammar g.T.Table.known l.atom l.initial.stack).left;
}

abbrev pub decreases-loop-symbol : goal.decreases-loop-symbol
decreases-loop-symbol g l = work g.T.Table.known l.atom l.stack
