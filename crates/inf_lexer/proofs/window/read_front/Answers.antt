use Rattle.inf_lexer.proofs.Giving.{reads_front}
use Rattle.inf_lexer.proofs.window.read_front.Goals as goal

pub returns-clause-reads : goal.returns-clause-reads
returns-clause-reads g c =
    let read = c.read.ensures in
    record {
      sources = read.kept.0;
      honesty = read.kept.1;
      depth = read.depth;
      opened = read.opened;
      counts = read.counts;
      faults = read.faults.0;
      calm = read.faults.1;
      cause = read.cause;
      reads = λ honest. reads_front _ _ _ _ _ _ read.count (read.reads honest);
    }
