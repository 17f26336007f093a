-- An atom fits the whole stack exactly where it fits its rest.
use Rattle.std.proofs.Common.{◌≡◌, reverse, length}
use Rattle.inf_machine.specs.Machine.{fits}
use Rattle.inf_machine.proofs.reading.fits.Given as goal

abbrev pub invariant-loop-symbol : goal.invariant-loop-symbol
invariant-loop-symbol g l =
    fits g.T.Table.grammar g.T.Table.known l.atom (reverse l.stack) ≡ fits g.T.Table.grammar g.T.Table.known l.atom (reverse l.left)

abbrev pub decreases-loop-symbol : goal.decreases-loop-symbol
decreases-loop-symbol g l = length l.left
