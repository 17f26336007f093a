use Rattle.std.proofs.Common.{◌≡◌, length, sym, subst}
use Rattle.inf_area.specs.Cells.{bytes_of, later_count}
use Rattle.inf_objects.specs.{Measures.CountedBy, Tables.individual_table_cells, Tables.table_cells, declared.sizes.Measure.Measure}
use Rattle.inf_objects.proofs.{Counted.counted, Written.individual_table_measured, Written.table_measured}
use Rattle.inf_objects.proofs.sizes.measured.Goals as goal

pub returns : goal.returns
returns c =
    let o = c.args.object.now in let is = sym c.measure_by.ensures in
    record {
      value = c.measure_by.ensures;
      table = λ part. subst (λ (m : Measure). (length (bytes_of (table_cells part o)) ≡ m.table.bytes) ×
          (later_count (table_cells part o) ≡ m.table.later)) is (table_measured part o c.as_slice.ensures.once c.as_slice.ensures.free);
      individual_table = subst (λ (m : Measure). (length (bytes_of (individual_table_cells o)) ≡ m.individual_table.bytes) ×
          (later_count (individual_table_cells o) ≡ m.individual_table.later)) is (individual_table_measured o);
      counted = subst (λ m. CountedBy o.owner o m) is (counted o);
    }
