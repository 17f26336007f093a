use Rattle.std.proofs.Common.{length-set, Bool, false, None, sym, ap, ◌∙◌, arith, slice_set, ◌+◌}
use Rattle.inf_objects.specs.Attributes.{said_or}
use Rattle.inf_objects.proofs.Merging.{merged_end, merged_from, merged_next}
use Rattle.inf_objects.proofs.attributes.attributes_by.Goals as goal

pub loop-place-preserved : goal.loop-place-preserved
loop-place-preserved c =
    let count = c.loop-place.invariant.1 in (
      ap (λ v. merged_from (λ a s. said_or s a) (c.loop-place.place + 1) (slice_set c.loop-place.all c.loop-place.place v) c.args.said.now)
          c.said_or.ensures ∙ merged_next (λ a s. said_or s a) c.loop-place.place c.loop-place.all c.args.said.now false None
          (omega (arith, count, c.loop-place-test.true)) (omega (arith, c.told-said, c.loop-place-test.true)) ∙ c.loop-place.invariant.0,
      omega (arith, length-set {A = Bool}, count),
    )

pub returns : goal.returns
returns c = sym (merged_end (λ a s. said_or s a) c.loop-place.place c.loop-place.all c.args.said.now
    (omega (arith, c.loop-place.invariant.1, c.loop-place-test.false, c.loop-place.auto.place-end))) ∙ c.loop-place.invariant.0
