use Rattle.std.proofs.Common.{◌≡◌, ◌++◌, replicate}
use Rattle.inf_characters.proofs.reading.push_times.Given as goal

abbrev pub invariant-loop-done : goal.invariant-loop-done
invariant-loop-done l = l.items.items ≡ l.initial.items.items ++ replicate l._done l.item
