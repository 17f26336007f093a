-- The areas of a world (Z-Machine Standard 1.1, section 12): as cells, the first four objects before those of the source.
use Rattle.std.specs.Prelude.{ℕ, ◌+◌, ◌-◌, ◌*◌, ◌%◌, List, [], ◌∷◌, ◌++◌, Bool, length, map, replicate, sum_by}
use Rattle.inf_area.specs.declared.{cells.Cell.Cell, targets.AreaName.AreaName, targets.Target.Target, targets.Value.Value}
use Rattle.inf_area.specs.Cells.{bytes_of, values_cells, word_cells}
use Rattle.inf_properties.specs.{declared.sizes.Owner.Owner, declared.values.Property.Property}
use Rattle.inf_objects.specs.{Attributes.attribute_cells, Attributes.no_attributes, declared.objects.Object.Object, declared.tree.Link.Link}
use Rattle.inf_objects.specs.Tables.{class_values, individual_table_cells, name_cells, table_cells}
use Rattle.inf_objects.specs.Tree.{child_of, link_at, sibling_of}
use Rattle.inf_tables.specs.{World.WorldOf, declared.kinds.DeclaredProperty.DeclaredProperty, declared.kinds.WorldArea.WorldArea}

-- The first four objects: `Class`, `Object`, `Routine` and `String`, which have no parent and no properties.
abbrev pub first_object : List ℕ → Object
first_object name =
    record { owner = Owner.Object; parent = 0; arrows = 0; attributes = no_attributes; name = name; classes = []; properties = [] }

-- their names, packed
unfoldable pub first_names : List (List ℕ)
first_names = (17 ∷ 17 ∷ 155 ∷ 24 ∷ []) ∷ (18 ∷ 135 ∷ 61 ∷ 72 ∷ 228 ∷ 165 ∷ []) ∷ (18 ∷ 244 ∷ 107 ∷ 46 ∷ 205 ∷ 69 ∷ [])
    ∷ (19 ∷ 25 ∷ 93 ∷ 211 ∷ 176 ∷ 165 ∷ []) ∷ []

abbrev pub first_objects : List Object
first_objects = map first_object first_names

abbrev pub all_objects : List Object → List Object
all_objects objects = first_objects ++ objects

-- Property defaults: 63 words, the first for number 1 (section 12.2)
abbrev pub all_defaults : List DeclaredProperty → List Value
all_defaults declared =
    replicate 3 (Value.Known 0) ++ map (λ (d : DeclaredProperty). d.default) declared ++ replicate (60 - length declared) (Value.Known 0)

-- Objects (section 12.3): attributes, parent, sibling, child, and the address of the property table. A class has no attributes of its own.
abbrev pub shown_attributes : Owner → List Bool → List Bool
shown_attributes Owner.Object attributes = attributes
shown_attributes Owner.Class attributes = no_attributes
shown_attributes Owner.Nothing attributes = no_attributes

abbrev pub parents_of : List Object → List ℕ
parents_of objects = map (λ (o : Object). o.parent) objects

abbrev pub entry_cells : List Bool → ℕ → ℕ → ℕ → ℕ → List Cell
entry_cells attributes parent sibling child part =
    attribute_cells attributes ++ word_cells (parent % 65536) ++ word_cells (sibling % 65536) ++ word_cells (child % 65536)
    ++ Cell.Later (Target.Part AreaName.PropertyTables part) ∷ []

abbrev pub object_cells : List ℕ → ℕ → Object → List Cell
object_cells parents part o =
    entry_cells (shown_attributes o.owner o.attributes) o.parent (sibling_of (part + 1) parents) (child_of (part + 1) parents) part

abbrev pub objects_from : List ℕ → ℕ → List Object → List Cell
objects_from parents part [] = []
objects_from parents part (o ∷ objects) = object_cells parents part o ++ objects_from parents (part + 1) objects

-- Property tables, each a part of its area, and individual tables
abbrev pub tables_from : ℕ → List Object → List Cell
tables_from part [] = []
tables_from part (o ∷ objects) = table_cells part o ++ tables_from (part + 1) objects

abbrev pub individual_tables : List Object → List Cell
individual_tables [] = []
individual_tables (o ∷ objects) = individual_table_cells o ++ individual_tables objects

-- The numbers of the classes, and a 0
abbrev pub class_numbers_by : Owner → ℕ → List ℕ
class_numbers_by Owner.Object number = []
class_numbers_by Owner.Class number = number ∷ []
class_numbers_by Owner.Nothing number = []

abbrev pub class_numbers_from : ℕ → List Object → List ℕ
class_numbers_from number [] = []
class_numbers_from number (o ∷ objects) = class_numbers_by o.owner number ++ class_numbers_from (number + 1) objects

-- The cells of each area of a world; an open body is no part of it.
abbrev pub area_cells : WorldArea → WorldOf → List Cell
area_cells WorldArea.PropertyDefaults w = values_cells (all_defaults w.declared)
area_cells WorldArea.Objects w = objects_from (parents_of (all_objects w.objects)) 0 (all_objects w.objects)
area_cells WorldArea.PropertyTables w = tables_from 0 (all_objects w.objects)
area_cells WorldArea.ClassNumbers w = values_cells (class_values (class_numbers_from 1 (all_objects w.objects))) ++ word_cells 0
area_cells WorldArea.IndividualTables w = individual_tables (all_objects w.objects)

abbrev pub name_of : WorldArea → AreaName
name_of WorldArea.PropertyDefaults = AreaName.PropertyDefaults
name_of WorldArea.Objects = AreaName.Objects
name_of WorldArea.PropertyTables = AreaName.PropertyTables
name_of WorldArea.ClassNumbers = AreaName.ClassNumbers
name_of WorldArea.IndividualTables = AreaName.IndividualTables

-- The places where the parts of an area begin, in bytes from its front, where the first part begins at `at`
abbrev pub table_places_from : ℕ → ℕ → List Object → List ℕ
table_places_from at part [] = []
table_places_from at part (o ∷ objects) = at ∷ table_places_from (at + length (bytes_of (table_cells part o))) (part + 1) objects

abbrev pub individual_places_from : ℕ → List Object → List ℕ
individual_places_from at [] = []
individual_places_from at (o ∷ objects) = at ∷ individual_places_from (at + length (bytes_of (individual_table_cells o))) objects

-- the bytes that classes hold in no table: two for each value
abbrev pub held_by : Owner → Object → ℕ
held_by Owner.Object o = 0
held_by Owner.Class o = 2 * sum_by (λ (p : Property). length p.values) o.properties
held_by Owner.Nothing o = 0

abbrev pub held_bytes : List Object → ℕ
held_bytes objects = sum_by (λ (o : Object). held_by o.owner o) objects

-- As the code makes them: entries by links, and a table that has a short name alone
abbrev pub object_by : List Link → ℕ → Object → List Cell
object_by links part o =
    entry_cells (shown_attributes o.owner o.attributes) o.parent (link_at links part).sibling (link_at links part).child part

abbrev pub entries_by : List Link → ℕ → List Object → List Cell
entries_by links part [] = []
entries_by links part (o ∷ objects) = object_by links part o ++ entries_by links (part + 1) objects

abbrev pub bare_cells : List ℕ → List Cell
bare_cells name = name_cells name ++ Cell.Byte 0 ∷ []
