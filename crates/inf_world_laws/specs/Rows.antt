-- Four small stories: their declarations, and the bytes of their objects.
use Rattle.std.specs.Prelude.{◌≡◌, ℕ, ◌==◌, ◌||◌, ◌-◌, List, [], ◌∷◌, Bool, true, false, map, if◌then◌else◌}
use Rattle.inf_area.specs.declared.targets.Value.{Value}
use Rattle.inf_objects.specs.{Attributes.attribute_cells, Reading.filled, declared.objects.Object.Object}
use Rattle.inf_objects.specs.Tables.{individual_table_cells, table_cells}
use Rattle.inf_tables.specs.World.{WorldOf, no_world, with_property}
use Rattle.inf_world_laws.specs.Declaring.{WorldIsThings, objects_of}
use Rattle.inf_world_laws.specs.Families.{child, parent_at, parents, sibling}
use Rattle.inf_world_laws.specs.Things.{Arrows, Declaration, Declared, Individual, Inside, things}

abbrev pub is_name : ℕ → Bool
is_name n = n == 1

-- Attribute a; Attribute b; Property p; Property q 9;
-- Class A with p 1, name 'a//', has a; Class B with p 2, q 7, name 'b//', has b;
-- Object o with name 'c//', class A B, has ~a;
-- where the words stand at 1007, 1016 and 1025.
abbrev pub two_classes : List Declaration
two_classes =
    record {
      is_class = true;
      place = Arrows 0;
      classes = [];
      has = (0, true) ∷ [];
      with = (Declared 4, Value.Known 1 ∷ []) ∷ (Declared 1, Value.Known 1007 ∷ []) ∷ [];
    }
    ∷ record {
      is_class = true;
      place = Arrows 0;
      classes = [];
      has = (1, true) ∷ [];
      with = (Declared 4, Value.Known 2 ∷ []) ∷ (Declared 5, Value.Known 7 ∷ []) ∷ (Declared 1, Value.Known 1016 ∷ []) ∷ [];
    }
    ∷ record {
      is_class = false;
      place = Arrows 0;
      classes = 5 ∷ 6 ∷ [];
      has = (0, false) ∷ [];
      with = (Declared 1, Value.Known 1025 ∷ []) ∷ [];
    } ∷ []

-- Object o with s 1 2;
abbrev pub individual_property : List Declaration
individual_property =
    record {
      is_class = false;
      place = Arrows 0;
      classes = [];
      has = [];
      with = (Individual 8, Value.Known 1 ∷ Value.Known 2 ∷ []) ∷ [];
    } ∷ []

abbrev pub plain : ℕ → Declaration
plain arrows = record { is_class = false; place = Arrows arrows; classes = []; has = []; with = [] }

-- Object a; Object -> b; Object -> c;
abbrev pub family : List Declaration
family = plain 0 ∷ plain 1 ∷ plain 1 ∷ []

-- Property p; Property additive q;
-- Class A with p 1, q 10, s 3, has a b; Class B class A, with q 20, t, has ~a;
-- Object c class B A, with q 30, t 1 2, has d; Object -> e class A B, with u; Object f "f" c; Object -> g class B B, has a ~a;
-- where `Object f` stands inside of c.
abbrev pub classes_of_classes : List Declaration
classes_of_classes =
    record {
      is_class = true;
      place = Arrows 0;
      classes = [];
      has = (0, true) ∷ (1, true) ∷ [];
      with = (Declared 4, Value.Known 1 ∷ []) ∷ (Declared 5, Value.Known 10 ∷ []) ∷ (Individual 8, Value.Known 3 ∷ []) ∷ [];
    }
    ∷ record {
      is_class = true;
      place = Arrows 0;
      classes = 5 ∷ [];
      has = (0, false) ∷ [];
      with = (Declared 5, Value.Known 20 ∷ []) ∷ (Individual 9, []) ∷ [];
    }
    ∷ record {
      is_class = false;
      place = Arrows 0;
      classes = 6 ∷ 5 ∷ [];
      has = (2, true) ∷ [];
      with = (Declared 5, Value.Known 30 ∷ []) ∷ (Individual 9, Value.Known 1 ∷ Value.Known 2 ∷ []) ∷ [];
    }
    ∷ record { is_class = false; place = Arrows 1; classes = 5 ∷ 6 ∷ []; has = []; with = (Individual 7, []) ∷ [] }
    ∷ record { is_class = false; place = Inside 7; classes = []; has = []; with = [] }
    ∷ record { is_class = false; place = Arrows 1; classes = 6 ∷ 6 ∷ []; has = (0, true) ∷ (0, false) ∷ []; with = [] } ∷ []

abbrev pub is_additive : ℕ → Bool
is_additive n = n == 1 || n == 5

-- short names, each packed in two bytes
abbrev pub shorts : List (List ℕ)
shorts = (208 ∷ 165 ∷ []) ∷ (208 ∷ 165 ∷ []) ∷ (208 ∷ 165 ∷ []) ∷ (7 ∷ 8 ∷ []) ∷ (9 ∷ 10 ∷ []) ∷ (11 ∷ 12 ∷ []) ∷ []

-- two properties were declared
abbrev pub two_properties : Bool → WorldOf
two_properties is_additive = with_property is_additive (Value.Known 9) (with_property false (Value.Known 0) no_world)

-- The tables have the things of the description.
abbrev pub ClassesAgree : Type 0
ClassesAgree =
    WorldIsThings is_name shorts two_classes (two_properties false)
    × WorldIsThings is_name shorts individual_property no_world
    × WorldIsThings is_additive shorts classes_of_classes (two_properties true)

-- the bytes of the object with a number: its property table, where each number that is known later is 21845, and its attributes
abbrev pub bytes_at : ℕ → List Object → List ℕ
bytes_at number [] = []
bytes_at number (o ∷ objects) = if number == 5 then filled (λ t. 21845) (table_cells 6 o) else bytes_at (number - 1) objects

abbrev pub attributes_at : ℕ → List Object → List ℕ
attributes_at number [] = []
attributes_at number (o ∷ objects) =
    if number == 5 then filled (λ t. 0) (attribute_cells o.attributes) else attributes_at (number - 1) objects

abbrev pub objects_in : List Declaration → List Object
objects_in declarations = objects_of is_name shorts (things is_name declarations)

-- An interpreter finds these bytes: the object's name, its properties from the highest number down, and 0; and six bytes of attributes.
abbrev pub TablesAreShown : Type 0
TablesAreShown =
    (bytes_at 7 (objects_in two_classes)
    ≡ 1 ∷ 208 ∷ 165 ∷ 69 ∷ 0 ∷ 7 ∷ 68 ∷ 0 ∷ 1 ∷ 130 ∷ 132 ∷ 0 ∷ 5 ∷ 0 ∷ 6 ∷ 129 ∷ 134 ∷ 4 ∷ 1 ∷ 3 ∷ 239 ∷ 3 ∷ 248 ∷ 0 ∷ [])
    × (attributes_at 7 (objects_in two_classes) ≡ 64 ∷ 0 ∷ 0 ∷ 0 ∷ 0 ∷ 0 ∷ [])
    × (bytes_at 5 (objects_in individual_property) ≡ 1 ∷ 208 ∷ 165 ∷ 67 ∷ 85 ∷ 85 ∷ 0 ∷ [])
    × (map (λ o. filled (λ t. 0) (individual_table_cells o)) (objects_in individual_property)
    ≡ (0 ∷ 64 ∷ 4 ∷ 0 ∷ 1 ∷ 0 ∷ 2 ∷ 0 ∷ 0 ∷ []) ∷ [])

-- the parent, the sibling and the child of a number
abbrev pub links : List Declaration → ℕ → List ℕ
links declarations n =
    let above = parents (things is_name declarations) in parent_at above n ∷ sibling above n ∷ child above n ∷ []

abbrev pub LinksAreShown : Type 0
LinksAreShown =
    (map (links family) (5 ∷ 6 ∷ 7 ∷ []) ≡ (0 ∷ 0 ∷ 6 ∷ []) ∷ (5 ∷ 7 ∷ 0 ∷ []) ∷ (5 ∷ 0 ∷ 0 ∷ []) ∷ [])
    × (parents (things is_additive classes_of_classes) ≡ 0 ∷ 0 ∷ 0 ∷ 0 ∷ 1 ∷ 1 ∷ 0 ∷ 7 ∷ 7 ∷ 9 ∷ [])
