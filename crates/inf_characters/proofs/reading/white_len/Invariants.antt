use Rattle.std.proofs.Common.{◌≡◌, ◌+◌, drop}
use Rattle.std.specs.List.{prefix_len}
use Rattle.inf_characters.specs.Characters.{is_white}
use Rattle.inf_characters.proofs.reading.white_len.Given as goal

abbrev pub invariant-loop-i : goal.invariant-loop-i
invariant-loop-i l = l.i + prefix_len (is_white l.set) (drop l.i l.bytes) ≡ prefix_len (is_white l.set) l.bytes
