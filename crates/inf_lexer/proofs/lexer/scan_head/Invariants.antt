use Rattle.std.proofs.Common.{◌≡◌, ◌+◌, ◌-◌, ◌≤◌, false, length}
use Rattle.inf_lexer.specs.{Heads.HeadFound, Heads.head_found, Heads.is_behind, Reading.Heard}
use Rattle.inf_lexer.proofs.lexer.scan_head.Given as goal

-- the head that is read from here is the head from the start, and the bytes that were given since are in view or were taken
abbrev pub invariant-windows : goal.invariant-windows
invariant-windows g l = record {
  heard : Heard HeadFound g.F.Files false l.fn.files l.files l.fn.window l.window (head_found l.place l.word.items l.lines)
      (head_found l.fn.from l.fn.word.items l.fn.lines);
  before : is_behind l.fn.from ≡ false → is_behind l.place ≡ false;
  room : l.lines.line + length l.window.left ≤ l.window.given + 1;
}

abbrev pub decreases-windows : goal.decreases-windows
decreases-windows g l = 16777217 + length l.window.left - l.window.given
