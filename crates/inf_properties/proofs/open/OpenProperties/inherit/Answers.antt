use Rattle.std.proofs.Common.{◌≡◌, ◌<◌, ◌^◌, ◌++◌, [], true, take, drop, length, sym, ap, subst, ◌∙◌, arith}
use Rattle.inf_properties.specs.{Open.IsOpen, Places.AreAt, Properties.AreNew, Properties.inherited, Sizes.are_short, Sizes.total}
use Rattle.inf_properties.specs.{declared.sizes.Size.Size}
use Rattle.inf_properties.proofs.{Inheriting.AreNew-inherited, Opening.opens_covered, Opening.opens_inherited, Sums.few}
use Rattle.inf_area.proofs.Joining.{take_front}
use Rattle.inf_properties.proofs.open.OpenProperties.inherit.Goals as goal

pub with_table-requires-clause-fixups : goal.with_table-requires-clause-fixups
with_table-requires-clause-fixups c =
    let within = few c.self.inside.owner c.deref-7.result.now in
    let bytes = ap (λ (s : Size). s.bytes) c.in-Some.ensures.some in
    let fixups = ap (λ (s : Size). s.fixups) c.in-Some.ensures.some in
    omega (arith, within.0, bytes, fixups, c.in-Some.ensures.within)

pub invariant_of-self : goal.invariant_of-self
invariant_of-self c =
    let o = c.self.inside in
    opens_covered o.owner o.own.items o.above.items o.own_places.items o.above_places.items c.cover_all.new.places.items o.size
    c.self.invariant c.cover_all.ensures.kept

pub place_all-requires-clause-once : goal.place_all-requires-clause-once
place_all-requires-clause-once c =
    let o = c.self.inside in let class = c.args.class.now in
    let above : c.in_ok-above.above.items ≡ inherited o.above.items class =
    c.in_ok-above.ensures ∙ ap (λ ps. inherited ps c.as_slice.result.now) c.deref.ensures.value
    ∙ ap (inherited o.above.items) c.as_slice.ensures.value in
    subst (AreNew []) (sym (c.deref-9.ensures.value ∙ above))
    (AreNew-inherited o.above.items class c.self.invariant.above_new c.as_slice.ensures.once)

pub invariant_of-self-2 : goal.invariant_of-self-2
invariant_of-self-2 c =
    let o = c.self.inside in let class = c.args.class.now in
    let above : c.in_ok-above.above.items ≡ inherited o.above.items class =
    c.in_ok-above.ensures ∙ ap (λ ps. inherited ps c.as_slice.result.now) c.deref.ensures.value
    ∙ ap (inherited o.above.items) c.as_slice.ensures.value in
    let all : c.in_ok-all.all.items ≡ inherited o.own.items (inherited o.above.items class) =
    c.in_ok-all.ensures ∙ ap (λ ps. inherited ps c.deref-5.result.now) c.deref-3.ensures.value
    ∙ ap (inherited o.own.items) (c.deref-5.ensures.value ∙ above) in
    let short : are_short (inherited o.own.items (inherited o.above.items class)) ≡ true =
    ap are_short (sym (c.deref-6.ensures.value ∙ all)) ∙ sym c.are_short.ensures ∙ c.if-not-are_short.false in
    let sized : c.in-Some.size ≡ total o.owner (inherited o.own.items (inherited o.above.items class)) =
    c.in-Some.ensures.some ∙ ap (total o.owner) (c.deref-7.ensures.value ∙ all) in
    let small : c.in-Some.size.bytes < 2 ^ 32 = omega (arith, c.in-Some.ensures.within) in
    let places = c.place_all.new.places in let count = c.place_all.auto.places ∙ c.as_mut_slice.ensures.len in
    let written = take_front c.cover_all.new.places.len places (drop (length places) c.cover_all.new.places.items) count in
    let at : AreAt 0 places (inherited o.above.items class) =
    subst (AreAt 0 places) (c.deref-9.ensures.value ∙ above) c.place_all.ensures in
    let known = opens_inherited o.owner o.own.items o.above.items class o.own_places.items o.above_places.items places o.size c.in-Some.size
    c.self.invariant c.as_slice.ensures.once c.as_slice.ensures.free at short sized small in
    subst (λ ps. IsOpen o.owner o.own.items ps o.own_places.items
    (take c.cover_all.new.places.len (places ++ drop (length places) c.cover_all.new.places.items)) c.in-Some.size) (sym above)
    (subst (λ ns. IsOpen o.owner o.own.items (inherited o.above.items class) o.own_places.items ns c.in-Some.size) (sym written) known)
