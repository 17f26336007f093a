use Rattle.std.proofs.Common.{inl, inr, ap, String, subst, sym, ◌∙◌, None, Some}
use Rattle.std.specs.declared.alloc.Global.{Global}
use Rattle.inf_reader.specs.Reading.{is_mode_ended}
use Rattle.inf_sources.specs.{Inclusions.Nesting, Open.Open}
use Rattle.inf_session.specs.{Session.State, Session.carried_out, Session.rested, Standing.HasRoom, Standing.state, Weights.GoesOn}
use Rattle.inf_ending.specs.declared.faults.Fault.{Fault}
use Rattle.inf_session.proofs.{Opening.followed_stops, Opening.rested_nesting, Promises.promised_as, Promises.promised_on}
use Rattle.inf_session.proofs.{Promises.promised_so}
use Rattle.inf_session.proofs.Promises.{told_halt}
use Rattle.inf_session.proofs.session.Session.follow.Goals as goal

pub returns-in_err-carry_out-clause-called : goal.returns-in_err-carry_out-clause-called
returns-in_err-carry_out-clause-called g c = promised_as (told_halt c.from_residual.result _ _ c.from_residual.ensures.1)
    (promised_so c.in_err-carry_out.ensures.called (λ s o start. tt) (λ failed s o start h. followed_stops h) (λ never. never))

pub returns-in_err-rest-clause-called : goal.returns-in_err-rest-clause-called
returns-in_err-rest-clause-called g c = promised_as (told_halt c.from_residual-in_err-rest.result _ _ c.from_residual-in_err-rest.ensures.1)
    (promised_on (Some Fault.Memory) c.in_ok-carry_out.ensures.called c.rest.ensures.files c.rest.ensures.setup (λ s o start. tt)
    (λ failed s o start step. record {
      opened = inr (λ told. ap (λ (x : State). x.nesting.openings) (step told) ∙ ap (λ (n : Nesting). n.openings)
          (sym (rested_nesting (carried_out s o (state s start (g.F.Files.openings c.args.files.now) c.args.self.now told)))));
      unread = tt;
    }) tt)

pub returns-clause-called : goal.returns-clause-called
returns-clause-called g c = promised_on None c.in_ok-carry_out.ensures.called c.rest.ensures.files c.rest.ensures.setup
    (λ s o start step told. c.in_ok-rest.ensures.rested s start (g.F.Files.openings c.carry_out.new.files) told ∙ ap rested (step told))
    (λ failed s o start. tt) tt

pub returns-clause-goes_on : goal.returns-clause-goes_on
returns-clause-goes_on g c = elim c.in_ok-carry_out.ensures.goes_on [
  | inl over ↦ inl (c.rest.ensures.ends over)
  | inr goes ↦ inr (subst (λ (o : Open). GoesOn (is_mode_ended c.args.self.now.progress.reader.mode) c.args.self.now.open_files o)
      (sym c.rest.ensures.files) goes)
]

pub returns-clause-room : goal.returns-clause-room
returns-clause-room g c =
    let held : HasRoom c.carry_out.new.self.room c.carry_out.new.self.open_files = c.in_ok-carry_out.ensures.room in
    subst (λ (r : String Global). HasRoom r c.rest.new.self.open_files) (sym c.rest.ensures.room)
    (subst (λ (o : Open). HasRoom c.carry_out.new.self.room o) (sym c.rest.ensures.files) held)
