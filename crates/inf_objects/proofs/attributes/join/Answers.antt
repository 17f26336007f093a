use Rattle.std.proofs.Common.{length-set, Bool, false, sym, ◌∙◌, arith, ◌||◌}
use Rattle.inf_objects.proofs.Merging.{merged_end, merged_next}
use Rattle.inf_objects.proofs.attributes.join.Goals as goal

pub loop-place-preserved : goal.loop-place-preserved
loop-place-preserved c =
    let count = c.loop-place.invariant.1 in (
      merged_next (λ a b. a || b) c.loop-place.place c.loop-place.above c.args.class.now false false
          (omega (arith, count, c.loop-place-test.true)) (omega (arith, c.told-class, c.loop-place-test.true)) ∙ c.loop-place.invariant.0,
      omega (arith, length-set {A = Bool}, count),
    )

pub returns : goal.returns
returns c = sym (merged_end (λ a b. a || b) c.loop-place.place c.loop-place.above c.args.class.now
    (omega (arith, c.loop-place.invariant.1, c.loop-place-test.false, c.loop-place.auto.place-end))) ∙ c.loop-place.invariant.0
