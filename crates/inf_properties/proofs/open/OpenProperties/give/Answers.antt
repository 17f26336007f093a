use Rattle.std.proofs.Common.{◌≡◌, ◌<◌, ◌^◌, ◌∷◌, ◌++◌, [], false, true, refl, sym, ap, subst, ◌∙◌, arith, List}
use Rattle.inf_area.specs.declared.targets.Value.{Value}
use Rattle.inf_properties.specs.{Open.IsOpen, Open.Open, Open.given_first, Places.AreAt, Properties.has, Properties.inherited}
use Rattle.inf_properties.specs.{Properties.joined, Sizes.is_short, Sizes.total, declared.sizes.Size.Size}
use Rattle.inf_properties.proofs.Opening.{bytes_within, opens_given}
use Rattle.inf_properties.proofs.open.OpenProperties.give.Goals as goal

pub invariant_of-self-2 : goal.invariant_of-self-2
invariant_of-self-2 c =
    let o = c.self.inside in let own = o.own.items in let above = o.above.items in let n = c.args.number in
    let p = given_first n c.args.is_additive c.args.first in
    let is : c.add_last.new.properties.items ≡ own ++ p ∷ [] =
    c.in_ok-add_last.ensures.ok ∙ ap (λ (vs : List Value). own ++ record p { values = vs } ∷ []) c.in_ok-values.ensures in
    let absent : has n own ≡ false = ap (λ (s : Open). has n s.own) c.self.view_is ∙ sym c.is_given.ensures ∙ c.if-is_given.false in
    let short : is_short (joined above p) ≡ true =
    ap (λ (s : Open). is_short (joined s.above p)) c.self.view_is ∙ c.in-Some.ensures.short refl in
    let sized : c.in-Some.size ≡ total o.owner (inherited (own ++ p ∷ []) above) =
    c.in-Some.ensures.some ∙ sym (ap (λ (s : Open). total s.owner (inherited (s.own ++ p ∷ []) s.above)) c.self.view_is) in
    let with_end = ap (λ (s : Size). s.bytes) c.with_table.ensures in
    let small : c.in-Some.size.bytes < 2 ^ 32 =
    omega (arith, bytes_within c.in-Some.size, c.lacks.ensures.small c.if-lacks.false, with_end) in
    let at = subst (AreAt 0 c.add_last.new.places.items) is c.add_last.ensures.at in
    subst (λ ps. IsOpen o.owner ps above c.add_last.new.places.items o.above_places.items c.in-Some.size) (sym is)
    (opens_given o.owner own above o.own_places.items o.above_places.items c.add_last.new.places.items o.size c.in-Some.size p
    c.self.invariant absent at c.requires short sized small)
