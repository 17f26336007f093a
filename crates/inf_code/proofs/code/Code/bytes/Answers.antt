-- An open routine follows the finished ones, up to the end of the area.
use Rattle.std.proofs.Common.{Bool, ◌≡◌, Option, Some, false, sym, ◌∙◌, ap, subst}
use Rattle.inf_assembler.specs.Routines.{State}
use Rattle.inf_code.specs.Code.{Routines, IsCode, bytes_of_code, open_in, source_cells}
use Rattle.inf_code.proofs.Full.{bytes_are}
use Rattle.inf_code.proofs.code.Code.bytes.Goals as goal

pub returns : goal.returns
returns g c =
    let inside = c.self.inside in let routine = c.in-Some.field-0 in
    let is : IsCode inside.limits inside.finished inside.refs inside.area (Some routine) =
    subst (IsCode inside.limits inside.finished inside.refs inside.area) c.in-Some.is c.self.invariant.0 in
    let kept : inside.is_lost ≡ false = c.if-self.false in
    let before = source_cells inside.finished inside.refs inside.area in
    let With : Bool → Option State → Routines = λ b r.
    record {
      scale = inside.scale;
      has_begun = inside.has_begun;
      finished = before;
      routines = inside.routines;
      opened = open_in inside.area b r;
    } in
    c.len.ensures.value ∙ bytes_are inside.limits inside.finished inside.refs inside.area routine is
    ∙ ap (λ r. bytes_of_code (With false r)) (sym c.in-Some.is) ∙ ap (λ b. bytes_of_code (With b inside.routine)) (sym kept)
    ∙ ap bytes_of_code c.self.view_is
