use Rattle.std.proofs.Common.{◌≡◌, ◌++◌, replicate}
use Rattle.inf_link.proofs.bytes.fill_up.Given as goal

abbrev pub invariant-loop : goal.invariant-loop
invariant-loop l = l.out.items ≡ l.fn.out.items ++ replicate l.counter 0
