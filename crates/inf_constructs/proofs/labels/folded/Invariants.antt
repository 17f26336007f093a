use Rattle.std.proofs.Common.{◌≡◌, ◌++◌, drop, length}
use Rattle.inf_names.specs.Symbols.{folded}
use Rattle.inf_constructs.proofs.labels.folded.Given as goal

-- the bytes without case so far, and those that are left without case, are the name without case
abbrev pub invariant-loop-byte : goal.invariant-loop-byte
invariant-loop-byte l =
    record { gives : l.key.items ++ folded (drop l.byte-index l.name) ≡ folded l.name; count : length l.key.items ≡ l.byte-index }
