use Rattle.std.proofs.Common.{◌≡◌, ◌++◌, take}
use Rattle.inf_area.proofs.areas.Area.append_to.Given as goal

-- the bytes so far are appended
abbrev pub invariant-loop-place : goal.invariant-loop-place
invariant-loop-place g l = l.out.items ≡ l.fn.out.items ++ take l.place (g.Self.Area.bytes l.self)
