use Rattle.std.proofs.Common.{◌≡◌, ◌≤◌, drop}
use Rattle.inf_scanner.specs.Kinds.{value_from}
use Rattle.inf_scanner.proofs.kinds.value_of.Given as goal

-- the digits that are left, behind the value so far, write the number of all digits
abbrev pub invariant-loop-byte : goal.invariant-loop-byte
invariant-loop-byte l = record {
  same : value_from l.base l.value (drop l.byte-index l.digits) ≡ value_from l.base 0 l.digits;
  small : l.value ≤ 65535;
}
