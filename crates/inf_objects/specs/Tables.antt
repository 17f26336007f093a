-- Property tables and individual tables (Z-Machine Standard 1.1, section 12.4; Inform Technical Manual, section 9).
use Rattle.std.specs.Prelude.{ℕ, zero, suc, ◌+◌, ◌*◌, ◌/◌, ◌%◌, List, [], ◌∷◌, ◌++◌, ◌==◌, Bool, false, length, nat_le, option_to_list}
use Rattle.std.specs.Prelude.{if◌then◌else◌}
use Rattle.std.specs.List.{list_any}
use Rattle.inf_area.specs.declared.{cells.Cell.Cell, targets.AreaName.AreaName, targets.Target.Target, targets.Value.Value}
use Rattle.inf_area.specs.Cells.{values_cells, word_cells}
use Rattle.inf_properties.specs.{Properties.found, declared.sizes.Owner.Owner, declared.values.Property.Property}
use Rattle.inf_objects.specs.declared.objects.Object.{Object}

-- bytes as cells
abbrev pub byte_cells : List ℕ → List Cell
byte_cells [] = []
byte_cells (b ∷ bytes) = Cell.Byte b ∷ byte_cells bytes

-- a short name, behind its length in words modulo 256
abbrev pub name_cells : List ℕ → List Cell
name_cells name = Cell.Byte (length name / 2 % 256) ∷ byte_cells name

-- the values that are written of a property: a single 0 where it has none
abbrev pub shown : List Value → List Value
shown [] = Value.Known 0 ∷ []
shown (v ∷ values) = v ∷ values

-- Definitions of declared properties

-- one size byte before a single word, two before more; a length of 64 bytes is written as 0 (section 12.4.2)
abbrev pub size_cells : ℕ → ℕ → List Cell
size_cells number count =
    if nat_le count 1 then Cell.Byte (64 + number) ∷ [] else Cell.Byte (128 + number) ∷ Cell.Byte (128 + 2 * count % 64) ∷ []

abbrev pub row_cells : Property → List Cell
row_cells p = size_cells p.number (length p.values) ++ values_cells (shown p.values)

abbrev pub rows_cells : List Property → List Cell
rows_cells [] = []
rows_cells (p ∷ rows) = row_cells p ++ rows_cells rows

-- the properties with numbers below the given one, in falling order of number
abbrev pub falling : ℕ → List Property → List Property
falling zero properties = []
falling (suc number) properties = option_to_list (found number properties) ++ falling number properties

-- the declared properties, in falling order of number
unfoldable pub all_falling : List Property → List Property
all_falling properties = falling 64 properties

-- property 2 of an object is the list of its classes, if it has any
abbrev pub class_values : List ℕ → List Value
class_values [] = []
class_values (n ∷ classes) = Value.Known (n % 65536) ∷ class_values classes

abbrev pub class_rows : List ℕ → List Property
class_rows [] = []
class_rows (n ∷ classes) = record { number = 2; is_additive = false; values = class_values (n ∷ classes) } ∷ []

abbrev pub is_individual : Property → Bool
is_individual p = nat_le 64 p.number

abbrev pub has_individual : List Property → Bool
has_individual properties = list_any is_individual properties

-- property 3 is the address of its individual table, if it has one
abbrev pub address_rows : ℕ → List Property → List Property
address_rows part properties =
    if has_individual properties then record {
      number = 3;
      is_additive = false;
      values = Value.Later (Target.Part AreaName.IndividualTables part) ∷ [];
    } ∷ [] else []

-- all properties in the property table of the object with number `part + 1`; a class has none there
abbrev pub rows_by : Owner → ℕ → Object → List Property
rows_by Owner.Object part o = class_rows o.classes ++ address_rows part o.properties ++ o.properties
rows_by Owner.Class part o = []
rows_by Owner.Nothing part o = []

abbrev pub rows_of : ℕ → Object → List Property
rows_of part o = rows_by o.owner part o

-- the cells of a property table: the short name, the properties in falling order, and a 0
abbrev pub table_cells : ℕ → Object → List Cell
table_cells part o = name_cells o.name ++ rows_cells (all_falling (rows_of part o)) ++ Cell.Byte 0 ∷ []

-- Individual properties, in order: the number modulo 65536, the length in bytes, and the values; then a 0 in two bytes

abbrev pub individual_row_cells : Property → List Cell
individual_row_cells p =
    word_cells (p.number % 65536) ++ Cell.Byte (2 * length (shown p.values) % 256) ∷ [] ++ values_cells (shown p.values)

abbrev pub individual_rows_cells : List Property → List Cell
individual_rows_cells [] = []
individual_rows_cells (p ∷ properties) = (if is_individual p then individual_row_cells p else []) ++ individual_rows_cells properties

abbrev pub individual_table_by : Owner → List Property → List Cell
individual_table_by Owner.Object properties = if has_individual properties then individual_rows_cells properties ++ word_cells 0 else []
individual_table_by Owner.Class properties = []
individual_table_by Owner.Nothing properties = []

abbrev pub individual_table_cells : Object → List Cell
individual_table_cells o = individual_table_by o.owner o.properties

-- the property that an object has of `number`, if any
abbrev pub rows_for : ℕ → Object → ℕ → List Property
rows_for part o number =
    if number == 2 then class_rows o.classes
    else if number == 3 then address_rows part o.properties
    else option_to_list (found number o.properties)
