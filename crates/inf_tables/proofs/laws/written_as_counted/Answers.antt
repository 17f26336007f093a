use Rattle.std.proofs.Common.{ap, arith, length, sum_by}
use Rattle.inf_area.specs.Cells.{bytes_of, later_count}
use Rattle.inf_objects.specs.Objects.{object_bytes, object_fixups}
use Rattle.inf_tables.specs.Areas.{all_objects, held_bytes, individual_tables, parents_of, tables_from}
use Rattle.inf_tables.proofs.Joining.{all_bytes, all_classes_later, all_defaults_later, all_individual, all_objects_later, tables_later}
use Rattle.inf_tables.proofs.laws.written_as_counted.Goals as goal

pub returns-clause-bytes : goal.returns-clause-bytes
returns-clause-bytes g c =
    let objects = c.args.world.now.objects in let same = c.objects-objects.ensures.value in
    let totals = c.totals-totals.ensures in
    omega (
      arith,
      all_bytes objects,
      ap (λ cs. length (bytes_of cs)) (all_individual objects),
      totals.table_bytes,
      totals.individual_bytes,
      totals.counted_bytes,
      ap (λ os. length (bytes_of (tables_from 4 os))) same,
      ap (λ os. length (bytes_of (individual_tables os))) same,
      ap held_bytes same,
      ap (sum_by object_bytes) same,
    )

pub returns-clause-later : goal.returns-clause-later
returns-clause-later g c =
    let objects = c.args.world.now.objects in let same = c.objects-objects.ensures.value in
    let totals = c.totals-totals.ensures in
    omega (
      arith,
      all_defaults_later c.args.world.now.declared,
      all_objects_later (parents_of (all_objects objects)) objects,
      tables_later objects,
      all_classes_later objects,
      ap later_count (all_individual objects),
      totals.table_later,
      totals.individual_later,
      totals.counted_later,
      ap (λ os. later_count (tables_from 4 os)) same,
      ap (λ os. later_count (individual_tables os)) same,
      ap length same,
      ap (sum_by object_fixups) same,
    )
