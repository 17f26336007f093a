use Rattle.std.proofs.Common.{◌≡◌, ℕ, ◌+◌, ◌-◌, ◌≤◌, List, ◌++◌, true, drop, length}
use Rattle.inf_scanner.specs.Scanning.{find, goes_on, sight}
use Rattle.inf_scanner.proofs.scanner.Seen.take_all.Given as goal

-- the token found from here on in the bytes that are left is the token found in all of them
abbrev pub invariant-loop-len : goal.invariant-loop-len
invariant-loop-len l = record {
  found : (rest : List ℕ) → find l.set l.limit l.state (sight l.self) (drop l.taken l.bytes ++ rest) ≡ find l.set l.limit l.fn.from
      (sight l.fn.self) (l.bytes ++ rest);
  opens : goes_on l.fn.from ≡ true → goes_on l.state ≡ true;
  within : l.taken ≤ length l.bytes;
  few : l.self.lines.line ≤ l.fn.self.lines.line + l.taken;
}

abbrev pub decreases-loop-len : goal.decreases-loop-len
decreases-loop-len l = length l.bytes - l.taken
