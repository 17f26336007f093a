use Rattle.std.proofs.Common.{◌≡◌, take}
use Rattle.inf_link.specs.Header.{checksum}
use Rattle.inf_link.proofs.header.checksum.Given as goal

abbrev pub invariant-loop-byte : goal.invariant-loop-byte
invariant-loop-byte l = l.sum ≡ checksum (take l.byte-index l.bytes)
