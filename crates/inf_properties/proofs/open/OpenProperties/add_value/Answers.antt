use Rattle.std.proofs.Common.{◌≡◌, ◌<◌, ◌^◌, true, refl, sym, ap, subst, ◌∙◌, arith}
use Rattle.inf_properties.specs.{Properties.inherited, Sizes.total, Values.with_last_value, declared.sizes.Size.Size}
use Rattle.inf_properties.specs.Open.{IsOpen, Open, is_last_short}
use Rattle.inf_properties.proofs.Opening.{bytes_within, opens_valued}
use Rattle.inf_properties.proofs.open.OpenProperties.add_value.Goals as goal

pub invariant_of-self-2 : goal.invariant_of-self-2
invariant_of-self-2 c =
    let o = c.self.inside in let own = o.own.items in let above = o.above.items in let v = c.args.value in
    let short : is_last_short above (with_last_value v own) ≡ true =
    ap (λ (s : Open). is_last_short s.above (with_last_value v s.own)) c.self.view_is ∙ c.in-Some.ensures.short refl in
    let sized : c.in-Some.size ≡ total o.owner (inherited (with_last_value v own) above) =
    c.in-Some.ensures.some ∙ sym (ap (λ (s : Open). total s.owner (inherited (with_last_value v s.own) s.above)) c.self.view_is) in
    let with_end = ap (λ (s : Size). s.bytes) c.with_table.ensures in
    let small : c.in-Some.size.bytes < 2 ^ 32 =
    omega (arith, bytes_within c.in-Some.size, c.lacks.ensures.small c.if-lacks.false, with_end) in
    subst (λ ps. IsOpen o.owner ps above o.own_places.items o.above_places.items c.in-Some.size) (sym c.in_ok-push_value.ensures.ok)
    (opens_valued o.owner own above o.own_places.items o.above_places.items o.size c.in-Some.size v c.self.invariant short sized small)
