use Rattle.std.proofs.Common.{◌≡◌, length, ◌-◌, ◌≤◌, take}
use Rattle.inf_devices.specs.Sinks.{Takes}
use Rattle.inf_devices.proofs.sinks.write_whole.Given as goal

-- the bytes up to `done` were taken, and no failure was counted
abbrev pub invariant-loop-done : goal.invariant-loop-done
invariant-loop-done g l = (l.done ≤ length l.bytes) × Takes (g.S.Sink.taken l.initial.sink) (g.S.Sink.taken l.sink) (take l.done l.bytes)
    × (g.S.Sink.failures l.sink ≡ g.S.Sink.failures l.initial.sink)

abbrev pub decreases-loop-done : goal.decreases-loop-done
decreases-loop-done g l = length l.bytes - l.done
