use Rattle.std.proofs.Common.{◌≡◌, ◌<◌, ◌+◌, Some, ap, sym, ◌∙◌, length, arith}
use Rattle.std.specs.List.{position_or_len}
use Rattle.inf_names.proofs.LocalLemmas.{has, number_from-absent, number_from-found}
use Rattle.inf_names.proofs.Places.{found_place, no_place}
use Rattle.inf_names.proofs.locals.Locals.number.Goals as goal

pub returns-in_err-place : goal.returns-in_err-place
returns-in_err-place c =
    let items = c.args.self.now.list.items in let name = c.args.name.now in
    c.from_residual.ensures
    ∙ sym (number_from-absent 1 name items (no_place (position_or_len (has name) items) (length items) c.in_err-place.ensures.value))

pub returns : goal.returns
returns c =
    let items = c.args.self.now.list.items in let name = c.args.name.now in
    let at = found_place c.in_ok-place.place (position_or_len (has name) items) (length items) c.in_ok-place.ensures.value in
    let within : position_or_len (has name) items < length items = omega (arith, at, c.in_ok-place.ensures.within) in
    let next : c.in_ok-place.place + 1 ≡ 1 + position_or_len (has name) items = omega (arith, at) in
    ap Some next ∙ sym (number_from-found 1 name items within)
