use Rattle.std.proofs.Common.{◌≡◌, ◌<◌, ap, map, sym, ◌∙◌, length, length-set, get_or, set, arith}
use Rattle.std.specs.List.{position_or_len}
use Rattle.arrayvec.proofs.ArrayVecLemmas.{items-with_items}
use Rattle.inf_names.specs.LocalList.{local}
use Rattle.inf_names.proofs.LocalLemmas.{as_named, has, with_named-absent, with_named-found}
use Rattle.inf_names.proofs.Places.{found_place, no_place}
use Rattle.inf_names.proofs.locals.Locals.name.Goals as goal

pub returns-in-Some : goal.returns-in-Some
returns-in-Some c =
    let list = c.args.self.now.list in let name = c.args.name.now in let shown = c.deref_mut.result.now in
    let place = c.in-Some.place in let none = c.index-deref_mut-place.result in
    let at = found_place place (position_or_len (has name) list.items) (length list.items) c.in-Some.ensures.value in
    let within : position_or_len (has name) list.items < length list.items = omega (arith, at, c.in-Some.ensures.within) in
    let same : length (set shown place (as_named (get_or shown place none))) ≡ length list.items =
    length-set shown place (as_named (get_or shown place none)) ∙ ap length c.deref_mut.ensures.value in
    ap (map local) (items-with_items list (set shown place (as_named (get_or shown place none))) same)
    ∙ rw (c.deref_mut.ensures.value, at) (sym (with_named-found name list.items none within))

pub returns-in_default : goal.returns-in_default
returns-in_default c =
    let items = c.args.self.now.list.items in let name = c.args.name.now in
    sym (with_named-absent name items (no_place (position_or_len (has name) items) (length items) c.in_default.ensures.value))
