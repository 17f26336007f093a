use Rattle.std.proofs.Common.{sym, ap, ◌∙◌}
use Rattle.inf_properties.proofs.Finding.{at_place, found-at}
use Rattle.inf_properties.proofs.places.find.Goals as goal

pub returns-in-Some : goal.returns-in-Some
returns-in-Some c =
    let there = ap (at_place c.args.number c.args.properties.now) (sym c.place_under.ensures ∙ c.in-Some.is) in
    c.checked.ensures ∙ sym (found-at c.args.places.now c.args.properties.now c.args.number c.requires ∙ there)

pub returns-in-None : goal.returns-in-None
returns-in-None c =
    let there = ap (at_place c.args.number c.args.properties.now) (sym c.place_under.ensures ∙ c.in-None.is) in
    sym (found-at c.args.places.now c.args.properties.now c.args.number c.requires ∙ there)
