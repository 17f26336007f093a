use Rattle.std.proofs.Common.{◌≡◌, ◌∷◌, ◌++◌, [], ◌+◌, length, length-append, refl, sym, ap, ◌∙◌, arith}
use Rattle.inf_properties.specs.Sizes.{later_count}
use Rattle.inf_properties.proofs.{Fitting.sized_by, Sums.later_count_push, Sums.size-joined}
use Rattle.inf_properties.proofs.open.value_sizes.Goals as goal

pub returns-clause-before : goal.returns-clause-before
returns-clause-before c =
    let p = c.args.property.now in let values = c.as_slice-values.ensures in
    c.in_ok-before.ensures.some
    ∙ sized_by c.args.owner c.args.owner p.number p.is_additive _ _ c.args.above.now c.args.above.now p.values refl
    (ap length values) (c.later_count-later.ensures.value ∙ ap later_count values) refl
    ∙ sym (size-joined c.args.owner p.number p.is_additive p.values c.args.above.now)

pub returns-clause-after : goal.returns-clause-after
returns-clause-after c =
    let p = c.args.property.now in let own = p.values ++ c.args.value ∷ [] in let values = c.as_slice-values.ensures in
    let old_count = ap length values in let old_later = c.later_count-later.ensures.value ∙ ap later_count values in
    let count : length c.as_slice-values.result.now + c.counts-more.result.0 ≡ length own =
    omega (arith, length-append p.values (c.args.value ∷ []), c.counts-more.ensures.count, old_count) in
    let later : c.later_count-later.result + c.counts-more.result.1 ≡ later_count own =
    omega (arith, later_count_push p.values c.args.value, c.counts-more.ensures.later, old_later) in
    c.in_ok-after.ensures.some
    ∙ sized_by c.args.owner c.args.owner p.number p.is_additive _ _ c.args.above.now c.args.above.now own refl count later refl
    ∙ sym (size-joined c.args.owner p.number p.is_additive own c.args.above.now)
