use Rattle.std.proofs.Common.{◌≡◌, ◌≤◌, drop}
use Rattle.inf_settings.specs.Words.{capped, decimal_from, decimal_of, greatest}
use Rattle.inf_settings.proofs.words.decimal_of.Given as goal

-- the digits that are left, behind the number so far, write the number of all digits
abbrev pub invariant-loop-byte : goal.invariant-loop-byte
invariant-loop-byte l = record {
  gives : capped (decimal_from l.number (drop l.byte-index l.digits)) ≡ capped (decimal_of l.digits);
  small : l.number ≤ greatest;
}
