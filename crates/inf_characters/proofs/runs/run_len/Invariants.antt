use Rattle.std.proofs.Common.{◌≡◌, ◌+◌, drop}
use Rattle.inf_characters.specs.Runs.{run_len}
use Rattle.inf_characters.proofs.runs.run_len.Given as goal

abbrev pub invariant-loop-i : goal.invariant-loop-i
invariant-loop-i l = l.i + run_len (drop l.i l.bytes) ≡ run_len l.bytes
