use Rattle.std.proofs.Common.{ap, arith}
use Rattle.inf_properties.proofs.Steps.{short_step, sum_step}
use Rattle.inf_objects.specs.{Measures.kind_part, declared.sizes.Part.Part}
use Rattle.inf_objects.proofs.Measuring.{kind_within, parts_within}
use Rattle.inf_objects.proofs.sizes.parts_of.Goals as goal

pub plus-all-requires : goal.plus-all-requires
plus-all-requires c =
    let ps = c.args.properties.now in let p = c.property-item.result in let kind = c.args.individual in
    let now = c.loop-property.invariant in
    let step = sum_step (λ q. (kind_part kind q).bytes) ps c.loop-property.property-index p c.loop-property-test.true c.property-item.is in
    let here = ap (λ (s : Part). s.bytes) c.kind_part.ensures in
    let later = ap (λ (s : Part). s.later) c.kind_part.ensures in
    let most = parts_within kind ps in
    record {
      bytes = omega (arith, step, here, now.bytes, most, c.requires.small);
      later = omega (arith, step, here, later, (kind_within kind p).0, now.few, now.bytes, most, c.requires.small);
    }

pub loop-property-preserved : goal.loop-property-preserved
loop-property-preserved c =
    let ps = c.args.properties.now in let i = c.loop-property.property-index in let p = c.property-item.result in
    let kind = c.args.individual in
    let bytes = sum_step (λ q. (kind_part kind q).bytes) ps i p c.loop-property-test.true c.property-item.is in
    let later = sum_step (λ q. (kind_part kind q).later) ps i p c.loop-property-test.true c.property-item.is in
    let here_bytes = ap (λ (s : Part). s.bytes) c.kind_part.ensures in
    let here_later = ap (λ (s : Part). s.later) c.kind_part.ensures in
    record {
      bytes = omega (arith, bytes, here_bytes, c.plus-all.ensures.bytes, c.loop-property.invariant.bytes);
      later = omega (arith, later, here_later, c.plus-all.ensures.later, c.loop-property.invariant.later);
      few = omega (
        arith,
        here_bytes,
        here_later,
        c.plus-all.ensures.bytes,
        c.plus-all.ensures.later,
        c.loop-property.invariant.few,
        (kind_within kind p).0,
      );
      short = (short_step ps i p c.loop-property-test.true c.property-item.is c.loop-property.invariant.short).1;
    }

pub returns-clause-small : goal.returns-clause-small
returns-clause-small c =
    omega (arith, c.loop-property.invariant.bytes, parts_within c.args.individual c.args.properties.now, c.requires.small)

pub returns-clause-few : goal.returns-clause-few
returns-clause-few c = omega (
  arith,
  c.loop-property.invariant.few,
  c.loop-property.invariant.bytes,
  parts_within c.args.individual c.args.properties.now,
  c.requires.small,
)
