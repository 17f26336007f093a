use Rattle.std.proofs.Common.{List, None, Some, ap, drop, inl, length, map, refl, subst, sym, ◌∙◌}
use Rattle.inf_conditionals.specs.Ends.{file_told}
use Rattle.inf_devices.specs.Files.{Opening}
use Rattle.inf_sources.specs.Open.{Open, nesting, waits}
use Rattle.inf_session.specs.Standing.{HasRoom, state}
use Rattle.inf_ending.specs.declared.faults.Fault.{Fault}
use Rattle.inf_session.proofs.{Promises.promised_as, Promises.promised_failed, Promises.promised_here, Promises.promised_went}
use Rattle.inf_session.proofs.{Promises.told_halt}
use Rattle.inf_session.proofs.Standings.{left_is, none_waits, one_waits, stays}
use Rattle.inf_session.proofs.session.Session.leave.Goals as goal

pub returns-in_err-end_file-clause-called : goal.returns-in_err-end_file-clause-called
returns-in_err-end_file-clause-called g c = promised_as (told_halt c.from_residual.result _ None c.from_residual.ensures.1)
    (promised_here (Some Fault.Memory) refl refl (λ s o start. tt)
    (λ failed s o start. record { opened = inl (λ told. refl); unread = tt }) tt)

pub returns-in_default-clause-called : goal.returns-in_default-clause-called
returns-in_default-clause-called g c =
    let files = g.F.Files in let s = files.sources c.args.files.now in let old = files.openings c.args.files.now in
    let was = c.args.self.now in let last = c.in_default.ensures.last in
    promised_went c.leave.ensures.went refl c.leave.ensures.settings.1 (λ goes. ap (λ (o : Open). o.lexer.has_failed) last.1.0 ∙ goes)
    c.leave.ensures.fits c.leave.ensures.untouched.0 (λ honest start nested told.
    stays (state s start old was told) (nesting s start (files.openings c.leave.new.files) c.leave.new.self) c.end_file.new.self
    c.end_file.new.report
    c.in_ok-end_file.ensures.ended (c.in_ok-end_file.ensures.told ∙ ap (λ n. file_told n.names was.conditionals was.progress.work.report)
    c.names.ensures) (ap (λ f. nesting s start (files.openings f) c.leave.new.self) last.1.1 ∙ ap (λ o. nesting s start old o) last.1.0)
    (none_waits s start old was.open_files last.0))

pub returns-in_err-make_room-clause-called : goal.returns-in_err-make_room-clause-called
returns-in_err-make_room-clause-called g c =
    promised_as (told_halt c.from_residual-in_err-make_room.result _ None c.from_residual-in_err-make_room.ensures.1)
    (promised_failed c.leave.ensures.went refl c.leave.ensures.settings.1 c.leave.ensures.untouched.0 tt (λ honest start nested. record {
      opened = inl (λ told. ap (λ (all : List Opening). map (λ (p : Opening). p.name) (drop (length start.all) all))
          (c.leave.ensures.all honest));
      unread = tt;
    }))

pub returns-clause-called : goal.returns-clause-called
returns-clause-called g c =
    let files = g.F.Files in let s = files.sources c.args.files.now in let old = files.openings c.args.files.now in
    let was = c.args.self.now in let f = waits c.leave.new.self.lexer c.in-Some.conditionals c.in-Some.is_system in
    promised_went c.leave.ensures.went refl c.leave.ensures.settings.1 (λ goes. c.in-Some.ensures.left.1)
    c.leave.ensures.fits c.leave.ensures.untouched.0 (λ honest start nested told.
    left_is (state s start old was told) (nesting s start (files.openings c.leave.new.files) c.leave.new.self) c.end_file.new.self
    c.give_among.new.self c.end_file.new.report f
    c.in_ok-end_file.ensures.ended (c.in_ok-end_file.ensures.told ∙ ap (λ n. file_told n.names was.conditionals was.progress.work.report)
    c.names.ensures) c.give_among.ensures (c.leave.ensures.nesting honest start nested)
    (one_waits s start old was.open_files c.leave.new.self.outer f nested c.in-Some.ensures.left.0))

pub returns-in_default-clause-room : goal.returns-in_default-clause-room
returns-in_default-clause-room g c =
    subst (λ (o : Open). HasRoom c.args.self.now.room o) (sym c.in_default.ensures.last.1.0) c.requires.room
