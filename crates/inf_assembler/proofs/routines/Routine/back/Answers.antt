-- The items of the moment are the first ones.
use Rattle.std.proofs.Common.{◌≡◌, ◌+◌, ◌∙◌, take, ap, refl, arith}
use Rattle.inf_assembler.specs.Routines.{State, Moment, contents_of}
use Rattle.inf_assembler.proofs.Opened.{back_within, back_stands, holds}
use Rattle.inf_assembler.proofs.routines.Routine.back.Goals as goal

pub overflow_add-at : goal.overflow_add-at
overflow_add-at g c =
    let state = c.args.self.now in let bytes = g.A.Area.bytes c.args.area.now in
    omega (
      arith,
      back_within state bytes (take state.start bytes) (contents_of state bytes) c.requires.were.0 c.args.mark c.requires.open_still
          c.requires.were.1,
      ap (λ (s : State). s.start) c.self.view_is,
      ap (λ (m : Moment). m.len) c.mark.view_is,
      c.len-end.ensures.value,
      c.len-end.type_inv,
    )

pub returns : goal.returns
returns g c = λ earlier were.
    let state = c.args.self.now in let bytes = g.A.Area.bytes c.args.area.now in
    let new_bytes = g.A.Area.bytes c.cut.new.self in let inside = c.self.inside in let moment = c.mark.inside in
    let new : State = record {
      start = inside.start;
      kept = c.truncate.new.self.items;
      labels = moment.labels;
      fixups = moment.fixups;
      is_final = moment.is_final;
      limits = inside.limits;
    } in
    let start = ap (λ (s : State). s.start) c.self.view_is in
    let at = c.mark.view_is in
    let place : inside.start + moment.len ≡ state.start + c.args.mark.len = omega (arith, start, ap (λ (m : Moment). m.len) at) in
    let kept = c.truncate.ensures.items ∙ ap (λ k. take k inside.kept.items) (ap (λ (m : Moment). m.kept) at)
    ∙ ap (λ (s : State). take c.args.mark.kept s.kept) c.self.view_is in
    let stands = back_stands state new bytes new_bytes (take state.start bytes) (contents_of state bytes) earlier c.args.mark
    (inside.start + moment.len) c.len-end.result
    c.requires.open_still were place c.len-end.ensures.value c.cut.ensures kept start (ap (λ (m : Moment). m.labels) at)
    (ap (λ (m : Moment). m.fixups) at) (ap (λ (m : Moment). m.is_final) at) in
    holds earlier state new bytes new_bytes (take state.start bytes) stands start refl (ap (λ (s : State). s.limits) c.self.view_is)
