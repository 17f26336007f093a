use Rattle.inf_properties.proofs.Steps.{at_step, covered_rest, once_rest}
use Rattle.inf_properties.proofs.lists.place_all.Goals as goal

pub loop-place-preserved : goal.loop-place-preserved
loop-place-preserved c =
    let ps = c.args.properties.now in let i = c.loop-place.place in let p = c.index-properties-place.result in
    let known = c.loop-place.invariant in
    record {
      at = at_step c.loop-place.places ps i p c.loop-place-test.true c.index-properties-place.is known.at known.covered known.once;
      covered = covered_rest c.loop-place.places ps i p.number i p c.loop-place-test.true c.index-properties-place.is known.covered;
      once = once_rest ps i p c.loop-place-test.true c.index-properties-place.is known.once;
    }
