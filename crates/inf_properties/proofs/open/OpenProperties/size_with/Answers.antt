use Rattle.std.proofs.Common.{◌≤◌, ◌<◌, ◌∷◌, ◌++◌, [], ℕ, List, length, refl, sym, ap, ◌∙◌, arith}
use Rattle.std.proofs.lemmas.Bool.{le-leb, lt-leb}
use Rattle.inf_area.specs.declared.targets.Value.{Value}
use Rattle.inf_properties.specs.{Open.Open, Sizes.are_short, declared.values.Property.Property}
use Rattle.inf_properties.specs.Properties.{inherited, joined_values, values_of}
use Rattle.inf_properties.proofs.{Short.own_length, Short.short_last, Sums.changed_is}
use Rattle.inf_properties.proofs.Fitting.{last_short_is, sized_as, valued_fits}
use Rattle.inf_properties.proofs.open.OpenProperties.size_with.Goals as goal

pub value_sizes-requires : goal.value_sizes-requires
value_sizes-requires c =
    let above = c.self.inside.above.items in let p = c.in-Some.last.now in
    let own = sym c.as_slice.ensures.value ∙ c.in-Some.ensures.cases.0 in
    let short = short_last c.in-Some.field-0-1.now above p (ap (λ ps. are_short (inherited ps above)) (sym own) ∙ c.self.invariant.short) in
    omega (arith, own_length p.is_additive p.values (values_of p.number above), short)

-- the number of values that the last property would have
abbrev count_after : Property → Value → List Value → ℕ
count_after p v above = length (joined_values p.is_additive (p.values ++ v ∷ []) above)

pub returns-in_err-before-clause-long : goal.returns-in_err-before-clause-long
returns-in_err-before-clause-long c =
    let s = c.args.self.now in let p = c.in-Some.last.now in let v = c.args.value in
    let own = ap (λ (o : Open). o.own) (sym c.self.view_is) ∙ sym c.as_slice.ensures.value ∙ c.in-Some.ensures.cases.0 in
    let count = ap (count_after p v) c.values_above-above.ensures in
    let long : 32 < count_after p v (values_of p.number s.above) = omega (arith, c.in_err-before.ensures.long, count) in
    rw c.from_residual.ensures (last_short_is s.own c.in-Some.field-0-1.now s.above p v own ∙ lt-leb
    (count_after p v (values_of p.number s.above)) 32 long)

pub returns-clause-short : goal.returns-clause-short
returns-clause-short c =
    let s = c.args.self.now in let p = c.in-Some.last.now in let v = c.args.value in
    let own = ap (λ (o : Open). o.own) (sym c.self.view_is) ∙ sym c.as_slice.ensures.value ∙ c.in-Some.ensures.cases.0 in
    let count = ap (count_after p v) c.values_above-above.ensures in
    let short : count_after p v (values_of p.number s.above) ≤ 32 = omega (arith, c.in_ok-before.ensures.short refl, count) in
    λ _. last_short_is s.own c.in-Some.field-0-1.now s.above p v own ∙ le-leb (count_after p v (values_of p.number s.above)) 32 short

pub changed-requires : goal.changed-requires
changed-requires c =
    let s = c.args.self.now in let p = c.in-Some.last.now in
    let owner = ap (λ (o : Open). o.owner) c.self.view_is in
    let own = sym c.as_slice.ensures.value ∙ c.in-Some.ensures.cases.0 in
    let was = c.in_ok-before.ensures.before
    ∙ sized_as c.self.inside.owner s.owner p c.values_above-above.result.now s.above owner c.values_above-above.ensures in
    let now = c.in_ok-before.ensures.after ∙ sized_as c.self.inside.owner s.owner (record p { values = p.values ++ c.args.value ∷ [] })
    c.values_above-above.result.now s.above owner c.values_above-above.ensures in
    let changes = valued_fits _ s c.in-Some.field-0-1.now p c.args.value c.self.inside.size c.in_ok-before.before c.in_ok-before.after
    c.self.view_is own c.self.invariant.sized was now in
    let little = c.in_ok-before.ensures.little in let invariant = c.self.invariant in
    record {
      bytes = changes.lost_bytes;
      fixups = changes.lost_fixups;
      individuals = changes.lost_individuals;
      small = (omega arith, omega arith, omega arith);
      little = (omega arith, omega arith, omega arith);
    }

pub returns-clause-some : goal.returns-clause-some
returns-clause-some c =
    let s = c.args.self.now in let p = c.in-Some.last.now in
    let owner = ap (λ (o : Open). o.owner) c.self.view_is in
    let own = sym c.as_slice.ensures.value ∙ c.in-Some.ensures.cases.0 in
    let was = c.in_ok-before.ensures.before
    ∙ sized_as c.self.inside.owner s.owner p c.values_above-above.result.now s.above owner c.values_above-above.ensures in
    let now = c.in_ok-before.ensures.after ∙ sized_as c.self.inside.owner s.owner (record p { values = p.values ++ c.args.value ∷ [] })
    c.values_above-above.result.now s.above owner c.values_above-above.ensures in
    c.changed.ensures ∙ changed_is _ _ _ _ (valued_fits _ s c.in-Some.field-0-1.now p c.args.value c.self.inside.size c.in_ok-before.before
    c.in_ok-before.after c.self.view_is own c.self.invariant.sized was now)
