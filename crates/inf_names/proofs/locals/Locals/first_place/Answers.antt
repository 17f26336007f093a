use Rattle.std.proofs.Common.{◌≡◌, ◌<◌, List, Option, Some, get_or, ap, sym, ◌∙◌, length, arith, option_map}
use Rattle.std.specs.List.{position_or_len}
use Rattle.inf_names.specs.{Locals.Local, declared.locals.Local.Local as CodeLocal}
use Rattle.inf_names.proofs.{LocalLemmas.has, LocalLemmas.local_of-absent, LocalLemmas.local_of-found, Places.found_place, Places.no_place}
use Rattle.inf_names.proofs.locals.Locals.first_place.Goals as goal

pub returns-in_err-place : goal.returns-in_err-place
returns-in_err-place c =
    let items = c.args.self.now.list.items in let name = c.args.name.now in
    c.from_residual.ensures ∙ sym (ap (λ (found : Option Local). option_map (λ (l : Local). l.place) found)
    (local_of-absent name items (no_place (position_or_len (has name) items) (length items) c.in_err-place.ensures.value)))

pub returns : goal.returns
returns c =
    let items = c.args.self.now.list.items in let name = c.args.name.now in
    let at = found_place c.in_ok-place.place (position_or_len (has name) items) (length items) c.in_ok-place.ensures.value in
    let within : position_or_len (has name) items < length items = omega (arith, at, c.in_ok-place.ensures.within) in
    let here : c.deref.result.now ≡ items = c.deref.ensures.0 in let none = c.index-deref-place.result in
    ap (λ (ls : List CodeLocal). Some (get_or ls c.in_ok-place.place none).place) here
    ∙ rw at (sym (ap (λ (found : Option Local). option_map (λ (l : Local). l.place) found) (local_of-found name items none within)))
