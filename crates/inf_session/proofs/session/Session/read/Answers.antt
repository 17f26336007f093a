use Rattle.std.proofs.Common.{◌+◌, None, refl, sym, ◌∙◌}
use Rattle.inf_lexer.proofs.Candidates.{rose_earlier}
use Rattle.inf_session.specs.{Standing.ended, Standing.state, Weights.weight}
use Rattle.inf_session.proofs.{Leadings.run_sum, Leadings.writes_nothing, Leadings.writes_on, Promises.promised_as, Promises.promised_here}
use Rattle.inf_session.proofs.Promises.{promised_then, still_open, told_fault, wrote_as, wrote_none, wrote_then}
use Rattle.inf_session.proofs.{Runs.run_breaks, Weighing.ends_or_falls}
use Rattle.inf_session.proofs.session.Session.read.Goals as goal

pub loop-self-init : goal.loop-self-init
loop-self-init g c = record {
  called = promised_here None refl refl (λ s o start. (0, writes_nothing (g.M.Sink.taken c.args.messages.now) (λ told. refl)))
      (λ failed s o start. tt) tt;
  wrote = wrote_none None;
  is_open = c.requires.is_open;
  goes = c.requires.goes;
  set = c.requires.set;
}

pub loop-self-preserved : goal.loop-self-preserved
loop-self-preserved g c =
    let m = g.M.Sink in let inv = c.loop-self.invariant in let took = c.in_ok-read_part.ensures in
    record {
      called = promised_then inv.called took.called (λ s o start a b. (
        a.0 + b.0,
        writes_on (λ told. run_sum g.B.Bounds.most s o a.0 b.0
            (state s start (g.F.Files.openings c.args.files.now) c.args.self.now told)) a.1 b.1.1,
      )) (λ rose s o start. tt)
          (λ r. rose_earlier (m.failures c.args.messages.now) (m.failures c.loop-self.messages) (m.failures c.read_part.new.messages)
          inv.wrote.appends.failures r);
      wrote = wrote_then inv.wrote took.wrote;
      is_open = still_open took.called.went inv.is_open;
      goes = took.called.goes inv.goes;
      set = took.called.set inv.set;
    }

pub loop-self-smaller : goal.loop-self-smaller
loop-self-smaller g c = ends_or_falls (ended c.read_part.new.self) (ended c.loop-self.self) (weight c.loop-self.self.open_files)
    (weight c.read_part.new.self.open_files) (sym c.has_ended.ensures ∙ c.loop-self-test.true) c.in_ok-read_part.ensures.stepped.falls

pub returns-in_err-read_part-clause-called : goal.returns-in_err-read_part-clause-called
returns-in_err-read_part-clause-called g c =
    let m = g.M.Sink in let inv = c.loop-self.invariant in
    promised_as (told_fault c.from_residual.result _ c.from_residual.ensures.1)
    (promised_then inv.called c.in_err-read_part.ensures.called (λ s o start. tt) (λ rose s o start a h. run_breaks a.0 a.1 h rose)
    (λ r. rose_earlier (m.failures c.args.messages.now) (m.failures c.loop-self.messages) (m.failures c.read_part.new.messages)
    inv.wrote.appends.failures r))

pub returns-in_err-read_part-clause-wrote : goal.returns-in_err-read_part-clause-wrote
returns-in_err-read_part-clause-wrote g c = wrote_as (told_fault c.from_residual.result _ c.from_residual.ensures.1)
    (wrote_then c.loop-self.invariant.wrote c.in_err-read_part.ensures.wrote)

pub returns-in_err-read_part-clause-is_open : goal.returns-in_err-read_part-clause-is_open
returns-in_err-read_part-clause-is_open g c = still_open c.read_part.ensures.called.went c.loop-self.invariant.is_open

pub returns-clause-called : goal.returns-clause-called
returns-clause-called g c = c.loop-self.invariant.called

pub returns-clause-wrote : goal.returns-clause-wrote
returns-clause-wrote g c = c.loop-self.invariant.wrote
