use Rattle.std.proofs.Common.{◌≡◌, ◌++◌, take, flat_map}
use Rattle.inf_link.specs.Header.{number_bytes}
use Rattle.inf_link.proofs.header.append_numbers.Given as goal

abbrev pub invariant-loop-number : goal.invariant-loop-number
invariant-loop-number l = l.out.items ≡ l.fn.out.items ++ flat_map number_bytes (take l.number-index l.numbers)
