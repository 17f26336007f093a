use Rattle.std.proofs.Common.{◌≡◌, false, Some, sym, ap, ◌∙◌}
use Rattle.inf_properties.specs.{Open.Open, Properties.found, Properties.has}
use Rattle.inf_properties.proofs.Short.{short_found, short_parts}
use Rattle.inf_properties.proofs.open.OpenProperties.above_of.Goals as goal

pub size_of-requires : goal.size_of-requires
size_of-requires c =
    let own = c.self.inside.own.items in let above = c.self.inside.above.items in
    let absent : has c.args.number own ≡ false = ap (λ (o : Open). has c.args.number o.own) c.self.view_is ∙ c.requires in
    let is : found c.args.number above ≡ Some c.in-Some.property.now =
    ap (found c.args.number) (sym c.deref-2.ensures.value) ∙ sym c.in-Some.ensures in
    short_found own above c.args.number c.in-Some.property.now (short_parts own above c.self.invariant.short).1 absent is
