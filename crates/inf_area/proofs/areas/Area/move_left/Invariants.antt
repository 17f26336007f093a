use Rattle.std.proofs.Common.{◌≡◌, ◌-◌, length}
use Rattle.inf_area.specs.Moves.{moved}
use Rattle.inf_area.proofs.areas.Area.move_left.Given as goal

-- the bytes so far are moved
abbrev pub invariant-loop-at : goal.invariant-loop-at
invariant-loop-at g l =
    let bytes = g.Self.Area.bytes l.self in let before = g.Self.Area.bytes l.fn.self in
    record { long : length bytes ≡ length before; moved : bytes ≡ moved l.to l.from (l.at - l.from) before }
