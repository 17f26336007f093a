use Rattle.std.proofs.Common.{◌≡◌}
use Rattle.std.specs.Io.KnownBytes.{Keeps}
use Rattle.inf_disk.proofs.disk.read_some.Given as goal

-- a read that was interrupted took nothing, and no failure is counted yet
abbrev pub invariant-loop : goal.invariant-loop
invariant-loop g l = Keeps (g.F.Read.remaining l.fn.file) (g.F.Read.remaining l.file) × (l.trouble ≡ l.fn.trouble)
