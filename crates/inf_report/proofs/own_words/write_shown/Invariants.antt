use Rattle.std.proofs.Common.{length}
use Rattle.inf_report.proofs.Runs.{Shows}
use Rattle.inf_report.proofs.own_words.write_shown.Given as goal

abbrev pub invariant-loop-rest : goal.invariant-loop-rest
invariant-loop-rest g l =
    Shows (g.S.Sink.taken l.initial.to) (g.S.Sink.taken l.to) (g.S.Sink.failures l.initial.to) (g.S.Sink.failures l.to) l.words.set
    l.words.bytes.now l.rest

abbrev pub decreases-loop-rest : goal.decreases-loop-rest
decreases-loop-rest g l = length l.rest
