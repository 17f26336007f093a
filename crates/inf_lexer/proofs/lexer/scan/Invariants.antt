use Rattle.std.proofs.Common.{◌≡◌, ◌+◌, ◌-◌, ◌≤◌, false, true, length}
use Rattle.inf_lexer.specs.Reading.{Heard}
use Rattle.inf_scanner.specs.{Scanning.Found, Scanning.begun, Scanning.find, Scanning.goes_on, Scanning.sight, declared.scanner.State.State}
use Rattle.inf_lexer.proofs.lexer.scan.Given as goal

-- the token that is read from here is the token from the start, and the bytes that were given since are in view or were taken
abbrev pub invariant-windows : goal.invariant-windows
invariant-windows g l = record {
  heard : Heard Found g.F.Files false l.fn.files l.files l.fn.window l.window (find l.set l.limit l.state (sight l.seen))
      (find l.set l.limit State.Gap (begun l.fn.seen.lines));
  opens : goes_on l.state ≡ true;
  room : l.seen.lines.line + length l.window.left ≤ l.window.given + 1;
}

abbrev pub decreases-windows : goal.decreases-windows
decreases-windows g l = 16777217 + length l.window.left - l.window.given
