use Rattle.std.proofs.Common.{◌≡◌, ◌+◌, drop}
use Rattle.inf_text.specs.Searching.{common}
use Rattle.inf_text.proofs.index.common_len.Given as goal

abbrev pub invariant-loop-i : goal.invariant-loop-i
invariant-loop-i l = l.i + common (drop l.i l.items) (drop l.i l.text) ≡ common l.items l.text
