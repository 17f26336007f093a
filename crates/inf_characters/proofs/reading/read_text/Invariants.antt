use Rattle.std.proofs.Common.{length}
use Rattle.inf_characters.proofs.Pieces.{Continues}
use Rattle.inf_characters.proofs.reading.read_text.Given as goal

abbrev pub invariant-loop-first : goal.invariant-loop-first
invariant-loop-first l = Continues l.set l.mode l.after_mark l.items.items l.rest l.bytes

abbrev pub decreases-loop-first : goal.decreases-loop-first
decreases-loop-first l = length l.rest
