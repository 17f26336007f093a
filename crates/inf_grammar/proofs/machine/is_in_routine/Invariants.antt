-- The whole stack is in a routine where its rest is.
use Rattle.std.proofs.Common.{◌≡◌, reverse}
use Rattle.inf_grammar.specs.Routines.{is_in_routine}
use Rattle.inf_grammar.proofs.machine.is_in_routine.Given as goal

abbrev pub invariant-loop-symbol : goal.invariant-loop-symbol
invariant-loop-symbol l = is_in_routine (reverse l.stack) ≡ is_in_routine (reverse l.symbol-iterator.iter.rest.now)
