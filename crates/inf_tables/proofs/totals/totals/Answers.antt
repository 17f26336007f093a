use Rattle.std.proofs.Common.{◌+◌, subst, sym}
use Rattle.inf_objects.specs.declared.sizes.Part.{Part}
use Rattle.inf_tables.specs.World.{AreHung}
use Rattle.inf_tables.proofs.WorldTables.{Left, counts, left_is, left_next}
use Rattle.inf_tables.proofs.totals.totals.Goals as goal

pub loop-object-preserved : goal.loop-object-preserved
loop-object-preserved c =
    let most = c.args.most in let objects = c.args.objects.now in let place = c.loop-object.object-index in
    let o = c.object-item.result in let all = c.loop-object.all in let m = c.measured-measure.result in
    let hung = subst (AreHung most) (left_is objects place o c.loop-object-test.true c.object-item.is) c.loop-object.invariant.hung in
    let next = left_next most objects place o all m c.loop-object-test.true c.object-item.is c.loop-object.invariant (record {
      counts = counts o m hung.1 c.measured-measure.ensures.counted;
      table_bytes = (c.measured-measure.ensures.table (4 + place)).0;
      table_later = (c.measured-measure.ensures.table (4 + place)).1;
      individual_bytes = c.measured-measure.ensures.individual_table.0;
      individual_later = c.measured-measure.ensures.individual_table.1;
    }) in
    let behind = subst (λ (x : Part). Left most objects (place + 1)
    (record { table = record { bytes = all.table.bytes + m.table.bytes; later = all.table.later + m.table.later }; individual_table = x }))
    (sym c.plus-in-loop-object.ensures) next in
    subst (λ (x : Part). Left most objects (place + 1) (record { table = x; individual_table = c.plus-in-loop-object.result }))
    (sym c.plus.ensures) behind
