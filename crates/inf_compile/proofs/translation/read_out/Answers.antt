use Rattle.std.proofs.Common.{[], IfOk, OnErr, refl, ap, subst, sym}
use Rattle.inf_devices.specs.Files.{Rose}
use Rattle.inf_lexer.proofs.Candidates.{rose_earlier}
use Rattle.inf_opcode.proofs.Growing.{on_err}
use Rattle.inf_sources.specs.{Calls.IsUnreadable, Open.Open, Open.opened_since}
use Rattle.inf_sources.proofs.Calls.{went_as}
use Rattle.inf_session.specs.{Choices.Choices, Choices.chosen, Standing.state}
use Rattle.inf_ending.specs.Delivered.{SucceedsClean, story_in}
use Rattle.inf_compile.specs.Comes.{BreaksOff, Concludes, Ends, Stops, StopsEarly, SuppliesPart}
use Rattle.inf_compile.proofs.Concluding.{breaks_off_at, concludes, ends_at, if_ok_always, if_read_none, on_err_leads, stops_ending}
use Rattle.inf_compile.proofs.Concluding.{early_ending, early_reading, if_memory_more, memory_any, stops_reading}
use Rattle.inf_ending.proofs.{Delivering.ends_behind, Delivering.if_ok_more, Quiet.hides_then}
use Rattle.inf_session.specs.Session.{run}
use Rattle.inf_session.proofs.Leadings.{opens_on}
use Rattle.inf_compile.proofs.Telling.{if_caused_more, tells_none}
use Rattle.inf_compile.proofs.translation.read_out.Goals as goal

pub returns-in-Ok-clause-translated : goal.returns-in-Ok-clause-translated
returns-in-Ok-clause-translated g c = λ honest start nested.
    let files = g.F.Files in let s = files.sources c.args.files.now in let o = chosen c.args.session.setup in
    let limits = g.B.Bounds.most in let here = files.openings c.read.new.files in let serial = c.args.serial.now in
    let old = g.M.Sink.taken c.args.messages.now in let mid = g.M.Sink.taken c.read.new.messages in
    let new = g.M.Sink.taken c.supply_out.new.messages in let read = c.in-Ok.ensures.called.made honest start nested in
    let next = c.read.new.self in let now = state s start here next in let r = c.supply_out.result.1 in
    let was = state s start (files.openings c.args.files.now) c.args.session in let same = ap chosen c.read.ensures.called.setup in
    record {
      concludes = subst (λ (f : Open). IfOk r (λ x. Concludes limits s o serial (was []) start here f old new x))
          (sym c.supply_out.ensures.files) (if_ok_more r (λ x. Ends limits o serial now x mid new)
          (λ x. Concludes limits s o serial (was []) start here next.open_files old new x)
          (λ x d. concludes limits s o serial was now start here next.open_files old mid new read.0 x read.1
          (λ told. c.in-Ok.ensures.ended) (c.read.ensures.called.went.nested honest start nested) (λ told. refl) d)
          (subst (λ (p : Choices). IfOk r (λ x. Ends limits p serial now x mid new)) same
          (ends_at r limits (chosen next.setup) serial next mid new s start here c.supply_out.ensures.ok)));
      stops = on_err_leads r (BreaksOff limits o serial now mid new) (Stops limits s o serial (was []) old new)
          (λ t. stops_ending limits s o serial was now old mid new read.0 read.1 (λ told. c.in-Ok.ensures.ended) t)
          (subst (λ (p : Choices). OnErr r (BreaksOff limits p serial now mid new)) same
          (breaks_off_at r limits (chosen next.setup) serial next mid new s start here c.supply_out.ensures.err));
      early = if_memory_more r (SuppliesPart limits (chosen next.setup) next mid new) (StopsEarly limits s o (was []) old new)
          (λ part. early_ending limits s o was next start here old mid new read.0 read.1 (λ told. c.in-Ok.ensures.ended)
          (subst (λ (p : Choices). SuppliesPart limits p next mid new) same part)) c.supply_out.ensures.early;
      heard = if_read_none r _ _ c.supply_out.ensures.fault;
      opened = on_err r (
        read.0,
        opens_on (run limits s o read.0) (λ x. x) {openings = opened_since start here} (λ told. refl) read.1 (λ told. refl),
      );
    }

pub returns-in-Ok-clause-leaves : goal.returns-in-Ok-clause-leaves
returns-in-Ok-clause-leaves g c =
    let files = g.F.Files in let m = g.M.Sink in let a = c.args.files.now in let b = c.read.new.files in
    let old = c.args.messages.now in let mid = c.read.new.messages in let new = c.supply_out.new.messages in
    let serial = c.args.serial.now in let r = c.supply_out.result.1 in
    record {
      went = went_as files a b c.args.session.open_files c.read.new.self.open_files c.supply_out.result.0 c.supply_out.ensures.files
          c.read.ensures.called.went;
      fits = if_ok_always r _ c.in-Ok.ensures.called.fits;
      seen = tells_none r (files.faults a) (files.faults b) c.in-Ok.ensures.called.seen;
      errors = c.supply_out.ensures.errors;
      clean = if_ok_more r (λ x. SucceedsClean serial x (m.taken mid) (m.taken new)) (λ x. SucceedsClean serial x (m.taken old) (m.taken new))
          (λ x p is. ends_behind m old mid new serial (story_in x) c.read.ensures.wrote.appends (p is)) c.supply_out.ensures.clean;
      fault = if_caused_more r (λ name. ⊥) (λ name. IsUnreadable files a b c.args.session.open_files c.supply_out.result.0)
          (Rose (m.failures mid) (m.failures new)) (Rose (m.failures old) (m.failures new)) (λ name never. absurd never)
          (λ rise. rose_earlier (m.failures old) (m.failures mid) (m.failures new) c.read.ensures.wrote.appends.failures rise)
          c.supply_out.ensures.fault;
      quiet = hides_then r (m.failures old) (m.failures mid) (m.failures new) c.in-Ok.ensures.wrote.quiet c.supply_out.ensures.quiet;
    }

pub returns-in-Err-clause-translated : goal.returns-in-Err-clause-translated
returns-in-Err-clause-translated g c = λ honest start nested.
    let files = g.F.Files in let s = files.sources c.args.files.now in let o = chosen c.args.session.setup in
    let was = state s start (files.openings c.args.files.now) c.args.session in let limits = g.B.Bounds.most in
    let old = g.M.Sink.taken c.args.messages.now in let new = g.M.Sink.taken c.read.new.messages in
    let broken = c.in-Err.ensures.called.broken honest start nested in
    record {
      concludes = tt;
      stops = stops_reading limits s o c.args.serial.now was old new broken.turns broken.cut;
      early = memory_any c.in-Err.fault (StopsEarly limits s o (was []) old new) (early_reading limits s o was old new broken.turns broken.cut);
      heard = broken.unread;
      opened = (broken.others, broken.opened);
    }

pub returns-in-Err-clause-leaves : goal.returns-in-Err-clause-leaves
returns-in-Err-clause-leaves g c = record {
  went = c.read.ensures.called.went;
  fits = tt;
  seen = (tt, c.in-Err.ensures.called.seen);
  errors = tt;
  clean = tt;
  fault = c.in-Err.ensures.called.cause;
  quiet = (tt, c.in-Err.ensures.wrote.quiet);
}
