use Rattle.std.proofs.Common.{◌≡◌}
use Rattle.std.specs.Io.KnownBytes.{Keeps}
use Rattle.inf_disk.proofs.disk.write_some.Given as goal

-- a write that was interrupted left nothing, and no failure is counted yet
abbrev pub invariant-loop : goal.invariant-loop
invariant-loop g l = Keeps (g.W.Write.contents l.fn.to) (g.W.Write.contents l.to) × (l.trouble ≡ l.fn.trouble)
