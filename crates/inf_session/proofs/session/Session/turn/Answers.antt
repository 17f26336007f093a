use Rattle.std.proofs.Common.{refl, arith, ◌≤◌, inl, inr, ◌++◌, ◌||◌, None, Some, ap, subst, sym, ◌∙◌}
use Rattle.inf_unit.specs.Messages.{Reported}
use Rattle.inf_reader.specs.Reading.{is_mode_ended}
use Rattle.inf_session.specs.{Choices.chosen, Choices.most_quoted, Session.told_out, Standing.state}
use Rattle.inf_ending.specs.declared.faults.Fault.{Fault}
use Rattle.inf_session.proofs.{Promises.promised_as, Promises.promised_on, Promises.promised_so, Promises.promised_then}
use Rattle.inf_session.proofs.{Promises.still_open, Promises.told_halt}
use Rattle.inf_session.proofs.{Promises.wrote_as, Promises.wrote_none, Runs.following_breaks, Runs.messages_break, Runs.token_breaks}
use Rattle.inf_session.proofs.{Runs.token_followed, Weighing.falls}
use Rattle.inf_session.proofs.session.Session.turn.Goals as goal

pub follow-requires-clause-is_open : goal.follow-requires-clause-is_open
follow-requires-clause-is_open g c = still_open c.take_token.ensures.called.went c.requires.is_open

pub follow-requires-clause-goes : goal.follow-requires-clause-goes
follow-requires-clause-goes g c = c.in_ok-take_token.ensures.called.goes c.requires.goes

pub follow-requires-clause-set : goal.follow-requires-clause-set
follow-requires-clause-set g c = c.take_token.ensures.called.set c.requires.set

pub returns-in_err-take_token-clause-called : goal.returns-in_err-take_token-clause-called
returns-in_err-take_token-clause-called g c = promised_as (told_halt c.from_residual.result _ _ c.from_residual.ensures.1)
    (promised_so c.in_err-take_token.ensures.called (λ s o start. tt) (λ failed s o start h. token_breaks h) (λ never. absurd never))

pub returns-in_err-follow-clause-called : goal.returns-in_err-follow-clause-called
returns-in_err-follow-clause-called g c =
    promised_as (told_halt c.from_residual-in_err-follow.result _ _ c.from_residual-in_err-follow.ensures.1)
    (promised_then c.in_ok-take_token.ensures.called c.in_err-follow.ensures.called (λ s o start. tt)
    (λ rose s o start first h. following_breaks first h rose) (λ never. absurd never))

pub returns-in_err-flush-clause-called : goal.returns-in_err-flush-clause-called
returns-in_err-flush-clause-called g c =
    let w = c.in_err-flush.ensures.writes in
    promised_as (told_halt c.from_residual-in_err-flush.result _ _ c.from_residual-in_err-flush.ensures.1)
    (promised_on (Some Fault.Messages) (token_followed g.B.Bounds.most c.in_ok-take_token.ensures.called c.in_ok-follow.ensures.called)
    refl refl (λ s o start. tt)
    (λ failed s o start step. messages_break c.follow.new.self step w.0.takes (record { rest = w.0.rest; is_cut = w.0.is_cut })) w.2)

pub returns-clause-called : goal.returns-clause-called
returns-clause-called g c =
    let now = c.follow.new.self in let lines = now.progress.work.report.lines in
    promised_on None (token_followed g.B.Bounds.most c.in_ok-take_token.ensures.called c.in_ok-follow.ensures.called) refl refl
    (λ s o start step. record {
      lines = lines;
      takes = c.in_ok-flush.ensures.writes.0;
      same = λ told. ap (λ (r : Reported). record (state s start (g.F.Files.openings c.follow.new.files) now (told ++ lines)) {
        work = record (state s start (g.F.Files.openings c.follow.new.files) now (told ++ lines)).work { report = r };
      }) c.in_ok-flush.ensures.none ∙ ap told_out (step told);
    }) (λ failed s o start. tt) tt

pub returns-in_err-take_token-clause-wrote : goal.returns-in_err-take_token-clause-wrote
returns-in_err-take_token-clause-wrote g c = wrote_none _

pub returns-in_err-follow-clause-wrote : goal.returns-in_err-follow-clause-wrote
returns-in_err-follow-clause-wrote g c = wrote_none _

pub returns-in_err-flush-clause-wrote : goal.returns-in_err-flush-clause-wrote
returns-in_err-flush-clause-wrote g c =
    let w = c.in_err-flush.ensures.writes in
    wrote_as (told_halt c.from_residual-in_err-flush.result _ _ c.from_residual-in_err-flush.ensures.1)
    (record { appends = record { lines = w.0.front; takes = w.0.takes; failures = w.1 }; quiet = tt })

pub returns-clause-wrote : goal.returns-clause-wrote
returns-clause-wrote g c =
    let w = c.in_ok-flush.ensures.writes in
    record {
      appends = record { lines = c.follow.new.self.progress.work.report.lines; takes = w.0; failures = omega (arith, w.1) };
      quiet = w.1;
    }

pub returns-clause-falls : goal.returns-clause-falls
returns-clause-falls g c = elim c.in_ok-follow.ensures.goes_on [
  | inl over ↦ inl (ap (λ (r : Reported). c.follow.new.self.is_over || (r.counts.is_over || is_mode_ended
      c.follow.new.self.progress.reader.mode)) c.in_ok-flush.ensures.none ∙ over)
  | inr goes ↦ inr (falls c.args.self.now.open_files c.take_token.new.self.open_files c.follow.new.self.open_files
      (is_mode_ended c.take_token.new.self.progress.reader.mode) c.in_ok-take_token.ensures.same.1.0 c.in_ok-take_token.ensures.moves goes)
]

pub returns-clause-longest : goal.returns-clause-longest
returns-clause-longest g c = λ few.
    let most = most_quoted (chosen c.args.self.now.setup) in let limit = c.requires.set in
    subst (λ n. n ≤ most) (sym c.in_ok-follow.ensures.quoted) (subst (λ n. c.take_token.new.self.quoted ≤ n) limit
    (c.in_ok-take_token.ensures.longest (subst (λ n. c.args.self.now.quoted ≤ n) (sym limit) few)))
