use Rattle.std.proofs.Common.{ap, arith}
use Rattle.inf_properties.specs.{Sizes.size_of, declared.sizes.Size.Size}
use Rattle.inf_properties.proofs.{Steps.short_step, Steps.sum_step, Sums.few_here}
use Rattle.inf_properties.proofs.lists.total_within.Goals as goal

pub loop-property-preserved : goal.loop-property-preserved
loop-property-preserved c =
    let ps = c.args.properties.now in let i = c.loop-property.property-index in let p = c.property-item.result in
    let o = c.args.owner in
    let bytes = sum_step (λ q. (size_of o q).bytes) ps i p c.loop-property-test.true c.property-item.is in
    let fixups = sum_step (λ q. (size_of o q).fixups) ps i p c.loop-property-test.true c.property-item.is in
    let individuals = sum_step (λ q. (size_of o q).individuals) ps i p c.loop-property-test.true c.property-item.is in
    let here_bytes = ap (λ (s : Size). s.bytes) c.size_of.ensures.value in
    let here_fixups = ap (λ (s : Size). s.fixups) c.size_of.ensures.value in
    let here_individuals = ap (λ (s : Size). s.individuals) c.size_of.ensures.value in
    let new_bytes = ap (λ (s : Size). s.bytes) c.changed-size.ensures in
    let new_fixups = ap (λ (s : Size). s.fixups) c.changed-size.ensures in
    let new_individuals = ap (λ (s : Size). s.individuals) c.changed-size.ensures in
    let few = few_here o p in
    record {
      bytes = omega arith;
      fixups = omega arith;
      individuals = omega arith;
      within = c.if-size-most.false;
      few_fixups = omega (arith, few.0);
      few_individuals = omega (arith, few.1);
      short = (short_step ps i p c.loop-property-test.true c.property-item.is c.loop-property.invariant.short).1;
    }
