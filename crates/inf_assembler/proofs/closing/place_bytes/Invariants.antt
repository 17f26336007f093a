use Rattle.std.proofs.Common.{◌≡◌, ◌+◌, ◌-◌, ◌++◌, take, drop}
use Rattle.inf_area.specs.Moves.{moved}
use Rattle.inf_assembler.proofs.closing.place_bytes.Given as goal

-- the bytes so far are written
abbrev pub invariant-loop-byte : goal.invariant-loop-byte
invariant-loop-byte g l =
    let start = l.to + (l.end - l.from) in let bytes = moved l.to l.from (l.end - l.from) (g.A.Area.bytes l.fn.area) in
    record {
      at : l.at ≡ start + l.byte-index;
      bytes : g.A.Area.bytes l.area ≡ take start bytes ++ take l.byte-index l.added ++ drop (start + l.byte-index) bytes;
    }
