use Rattle.std.proofs.Common.{◌≡◌, ◌≤◌, ◌+◌, ◌*◌, length}
use Rattle.inf_characters.specs.Reading.{pair_from}
use Rattle.inf_characters.proofs.escapes.pair_code.Given as goal

abbrev pub invariant-loop-x : goal.invariant-loop-x
invariant-loop-x l =
    (pair_from l.a l.b l.code l.pairs ≡ pair_from l.a l.b 155 l.table) × (2 * l.code + length l.pairs ≤ 448) × (155 ≤ l.code)

abbrev pub decreases-loop-x : goal.decreases-loop-x
decreases-loop-x l = length l.pairs
