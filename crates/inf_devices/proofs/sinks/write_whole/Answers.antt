use Rattle.std.proofs.Common.{length-drop, ◌∙◌, arith}
use Rattle.inf_devices.proofs.TakenBytes.{Takes-more, take-drop_all}
use Rattle.inf_devices.proofs.sinks.write_whole.Goals as goal

pub loop-done-preserved : goal.loop-done-preserved
loop-done-preserved g c =
    let all = take-drop_all c.args.bytes.now c.loop-done.done in
    let count = rw all at c.in-Ok.ensures.count in (
      omega (arith, count, length-drop c.loop-done.done c.args.bytes.now),
      Takes-more (g.S.Sink.taken c.args.sink.now) (g.S.Sink.taken c.loop-done.sink) (g.S.Sink.taken c.write.new.self) c.args.bytes.now
          c.loop-done.done c.in-Ok.count c.loop-done.invariant.1 (rw all at c.in-Ok.ensures.writes),
      c.in-Ok.ensures.quiet (omega arith) ∙ c.loop-done.invariant.2,
    )
