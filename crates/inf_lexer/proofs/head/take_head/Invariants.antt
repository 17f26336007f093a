use Rattle.std.proofs.Common.{◌≡◌, ℕ, ◌+◌, ◌-◌, ◌≤◌, List, ◌++◌, drop, false, length}
use Rattle.inf_lexer.specs.Heads.{head_found, is_behind}
use Rattle.inf_lexer.proofs.head.take_head.Given as goal

-- the finding from here in the bytes that are left is the finding in all of them
abbrev pub invariant-loop-byte : goal.invariant-loop-byte
invariant-loop-byte l = record {
  found : (rest : List ℕ) → head_found l.place l.word.items l.lines (drop l.taken l.bytes ++ rest) ≡ head_found l.fn.from
      l.fn.word.items l.fn.lines (l.bytes ++ rest);
  within : l.taken ≤ length l.bytes;
  before : is_behind l.fn.from ≡ false → is_behind l.place ≡ false;
  few : l.lines.line ≤ l.fn.lines.line + l.taken;
}

abbrev pub decreases-loop-byte : goal.decreases-loop-byte
decreases-loop-byte l = length l.bytes - l.taken
