use Rattle.std.proofs.Common.{◌≡◌, drop}
use Rattle.inf_constructs.specs.Labels.{missing}
use Rattle.inf_constructs.proofs.labels.Labels.missing.Given as goal

-- the missing label of those from here on is that of all
abbrev pub invariant-loop-place : goal.invariant-loop-place
invariant-loop-place l = missing (drop l.place l.self) ≡ missing l.self
