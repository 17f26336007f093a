use Rattle.inf_properties.proofs.{Finding.KeepsPlaces-then, Steps.covered_step}
use Rattle.inf_properties.proofs.lists.cover_all.Goals as goal

pub loop-property-preserved : goal.loop-property-preserved
loop-property-preserved c =
    let old = c.loop-property.places.items in let new = c.cover.new.places.items in
    record {
      kept = KeepsPlaces-then c.args.places.now.items old new c.loop-property.invariant.kept c.cover.ensures.kept;
      covered = covered_step old new c.args.properties.now c.loop-property.property-index c.property-item.result c.loop-property-test.true
          c.property-item.is c.cover.ensures.kept c.in_ok-cover.ensures.covered c.loop-property.invariant.covered;
    }
