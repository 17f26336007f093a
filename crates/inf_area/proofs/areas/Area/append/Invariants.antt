use Rattle.std.proofs.Common.{◌≡◌, ◌++◌, take}
use Rattle.inf_area.proofs.areas.Area.append.Given as goal

-- the bytes so far are appended
abbrev pub invariant-loop-byte : goal.invariant-loop-byte
invariant-loop-byte g l = g.Self.Area.bytes l.self ≡ g.Self.Area.bytes l.fn.self ++ take l.byte-index l.added
