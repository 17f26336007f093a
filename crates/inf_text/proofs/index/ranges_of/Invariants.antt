use Rattle.inf_text.proofs.Ranging.{AreRangesTo}
use Rattle.inf_text.proofs.index.ranges_of.Given as goal

abbrev pub invariant-loop-place : goal.invariant-loop-place
invariant-loop-place l = AreRangesTo l.texts l.order l.place l.ranges
