-- The bytes made small so far, and the bytes that are left made small, are all bytes made small.
use Rattle.std.proofs.Common.{◌≡◌, ◌++◌, drop, map, take}
use Rattle.std.specs.Char.{to_ascii_lowercase}
use Rattle.inf_names.proofs.keys.Key.of.Given as goal

abbrev pub invariant-loop-byte : goal.invariant-loop-byte
invariant-loop-byte l =
    take l.byte-index l.byte-items ++ map to_ascii_lowercase (drop l.byte-index l.byte-items) ≡ map to_ascii_lowercase l.initial.byte-items
