-- The bytes that an object needs in the areas of tables.
use Rattle.std.specs.Prelude.{◌+◌, ◌*◌, ◌≡◌, List, Bool, true, false, length, sum_by, if◌then◌else◌}
use Rattle.inf_properties.specs.{Sizes.size_of, declared.sizes.Owner.Owner, declared.values.Property.Property}
use Rattle.inf_objects.specs.{Objects.list_bytes, Objects.object_bytes, Objects.object_fixups, Tables.has_individual, Tables.is_individual}
use Rattle.inf_objects.specs.{declared.objects.Object.Object, declared.sizes.Measure.Measure, declared.sizes.Part.Part}

abbrev pub part_of : Property → Part
part_of p = record { bytes = (size_of Owner.Object p).bytes; later = (size_of Owner.Object p).fixups }

abbrev pub no_part : Part
no_part = record { bytes = 0; later = 0 }

-- the part of a property that is of the kind asked for (individual, or else declared); one of the other kind has no part
abbrev pub kind_part : Bool → Property → Part
kind_part individual p =
    if is_individual p then (if individual then part_of p else no_part) else (if individual then no_part else part_of p)

abbrev pub parts_of : Bool → List Property → Part
parts_of individual properties = record {
  bytes = sum_by (λ p. (kind_part individual p).bytes) properties;
  later = sum_by (λ p. (kind_part individual p).later) properties;
}

-- the part in the property table: the short name, the list of classes, the properties, the address of an individual table
abbrev pub table_part : Object → Part
table_part o = record {
  bytes = 2 + length o.name + list_bytes (length o.classes) + (parts_of false o.properties).bytes +
      (if has_individual o.properties then 3 else 0);
  later = (parts_of false o.properties).later + (if has_individual o.properties then 1 else 0);
}

-- the part in the individual table, where there is one
abbrev pub individual_table_part : Object → Part
individual_table_part o =
    if has_individual o.properties then record {
      bytes = (parts_of true o.properties).bytes + 2;
      later = (parts_of true o.properties).later;
    }
    else no_part

abbrev pub bare_part : Object → Part
bare_part o = record { bytes = 2 + length o.name; later = 0 }

-- the parts of an object; of a class only the short name is written
abbrev pub measure_by : Owner → Object → Measure
measure_by Owner.Object o = record { table = table_part o; individual_table = individual_table_part o }
measure_by Owner.Class o = record { table = bare_part o; individual_table = no_part }
measure_by Owner.Nothing o = record { table = bare_part o; individual_table = no_part }

abbrev pub measured : Object → Measure
measured o = measure_by o.owner o

-- The parts of an object have as many bytes as it counts; its numbers that are known later are those of the parts and the address
-- of its table. A class counts besides two bytes for each value that it holds.
abbrev pub CountedBy : Owner → Object → Measure → Type 0
CountedBy Owner.Object o m =
    (m.table.bytes + m.individual_table.bytes ≡ object_bytes o) × (m.table.later + m.individual_table.later + 1 ≡ object_fixups o)
CountedBy Owner.Class o m =
    (m.table.bytes + m.individual_table.bytes + 2 * sum_by (λ (p : Property). length p.values) o.properties ≡ object_bytes o)
    × (m.table.later + m.individual_table.later + 1 ≡ object_fixups o)
CountedBy Owner.Nothing o m = Unit {0}
