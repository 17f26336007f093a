-- The token taken from here on, behind the actions so far, gives the result of taking it from the start.
use Rattle.std.proofs.Common.{◌≡◌, ◌≤◌, reverse, take, length}
use Rattle.inf_machine.proofs.Reaching.{IsOn}
use Rattle.inf_machine.proofs.rest.reach.Given as goal

abbrev pub invariant-loop-below : goal.invariant-loop-below
invariant-loop-below g l = record {
  within : l.below ≤ length l.symbols.items;
  same : l.symbols.items ≡ l.initial.symbols.items;
  on : IsOn g.T.Table.grammar g.T.Table.known l.atom (reverse l.initial.symbols.items) (reverse (take l.below l.initial.symbols.items))
      l.initial.actions.items l.actions.items;
  before : take (length l.initial.actions.items) l.actions.items ≡ l.initial.actions.items;
}

abbrev pub decreases-loop-below : goal.decreases-loop-below
decreases-loop-below g l = l.below
