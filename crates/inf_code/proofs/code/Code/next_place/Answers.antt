-- The first routine and the cells have as many bytes as the finished routines.
use Rattle.std.proofs.Common.{◌∙◌, ap, sym}
use Rattle.inf_code.specs.Code.{Routines, place_behind}
use Rattle.inf_code.proofs.CodeSteps.{size_finished}
use Rattle.inf_code.proofs.code.Code.next_place.Goals as goal

pub returns : goal.returns
returns g c =
    let inside = c.self.inside in
    sym (size_finished inside.limits inside.finished inside.refs inside.area inside.routine c.self.invariant.0)
    ∙ ap (λ (r : Routines). place_behind r.finished) c.self.view_is
