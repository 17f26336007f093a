use Rattle.std.proofs.Common.{List, ℕ, subst}
use Rattle.inf_ending.specs.Delivered.{TakesFront}
use Rattle.inf_ending.proofs.Delivering.{takes_part}
use Rattle.inf_ending.proofs.compiled.written.Goals as goal

pub returns-in-Err-clause-err : goal.returns-in-Err-clause-err
returns-in-Err-clause-err g c =
    subst (λ (lines : List ℕ). TakesFront lines (g.M.Sink.taken c.args.messages.now) (g.M.Sink.taken c.write_whole.new.sink))
    c.as_slice.ensures.value
    (takes_part c.as_slice.result.now _ (g.M.Sink.taken c.args.messages.now) (g.M.Sink.taken c.write_whole.new.sink) c.in-Err.ensures.part)
