-- The ends that were counted, with those at the top of the rest, are all.
use Rattle.std.proofs.Common.{◌≡◌, ◌+◌, length, reverse}
use Rattle.inf_grammar.specs.Routines.{closings}
use Rattle.inf_grammar.proofs.machine.closings.Given as goal

abbrev pub invariant-loop-symbol : goal.invariant-loop-symbol
invariant-loop-symbol l = (l.count + closings (reverse l.symbol-iterator.iter.rest.now) ≡ closings (reverse l.stack))
    × (l.count + length l.symbol-iterator.iter.rest.now ≡ length l.stack)
