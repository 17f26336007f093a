-- The sizes of the tables of all objects together.
use Rattle.std.specs.Prelude.{◌≡◌, ◌+◌, List, length, sum_by}
use Rattle.inf_area.specs.Cells.{bytes_of, later_count}
use Rattle.inf_objects.specs.{Objects.object_bytes, Objects.object_fixups, declared.objects.Object.Object, declared.sizes.Measure.Measure}
use Rattle.inf_tables.specs.Areas.{held_bytes, individual_tables, tables_from}

-- `all` has the bytes and the later numbers of the tables of `objects`: as they are written, and as they were counted when they were read.
pub record AreTotals (objects : List Object) (all : Measure) : Type 0 where
  pub table_bytes : all.table.bytes ≡ length (bytes_of (tables_from 4 objects))
  pub table_later : all.table.later ≡ later_count (tables_from 4 objects)
  pub individual_bytes : all.individual_table.bytes ≡ length (bytes_of (individual_tables objects))
  pub individual_later : all.individual_table.later ≡ later_count (individual_tables objects)
  pub counted_bytes : all.table.bytes + all.individual_table.bytes + held_bytes objects ≡ sum_by object_bytes objects
  pub counted_later : all.table.later + all.individual_table.later + length objects ≡ sum_by object_fixups objects
