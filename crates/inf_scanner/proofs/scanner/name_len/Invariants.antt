use Rattle.std.proofs.Common.{◌≡◌, ◌+◌, drop}
use Rattle.std.specs.List.{prefix_len}
use Rattle.inf_scanner.specs.Runs.{is_name_byte}
use Rattle.inf_scanner.proofs.scanner.name_len.Given as goal

-- the bytes so far pass, and the count goes on with those that are left
abbrev pub invariant-loop-byte : goal.invariant-loop-byte
invariant-loop-byte l = record {
  len : l.len ≡ l.byte-index;
  front : prefix_len is_name_byte l.bytes ≡ l.byte-index + prefix_len is_name_byte (drop l.byte-index l.bytes);
}
