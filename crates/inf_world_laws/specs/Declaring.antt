-- The world that the tables of a story have: each declaration by the operations of `inf_tables`, in their order.
use Rattle.std.specs.Prelude.{◌≡◌, ℕ, ◌+◌, ◌==◌, ◌∷◌, [], List, map, Bool, true, false, Option, Some, None, if◌then◌else◌}
use Rattle.std.specs.List.{fold, range_with_len}
use Rattle.inf_area.specs.declared.targets.Value.{Value}
use Rattle.inf_properties.specs.{declared.sizes.Owner.Owner, declared.values.Property.Property}
use Rattle.inf_objects.specs.declared.objects.Object.{Object}
use Rattle.inf_tables.specs.declared.kinds.Parent.{Parent}
use Rattle.inf_tables.specs.World.{WorldOf, with_class_header, with_class_of, with_end, with_further_value, with_given_property}
use Rattle.inf_tables.specs.World.{with_individual, with_object_header, with_set_attribute}
use Rattle.inf_world_laws.specs.Things.{Arrows, Declaration, Declared, Individual, Inside, Place, PropertyName, Thing, things}

abbrev pub owner_of : Bool → Owner
owner_of is_class = if is_class then Owner.Class else Owner.Object

abbrev pub property : (ℕ → Bool) → ℕ → List Value → Property
property additive n values = record { number = n; is_additive = additive n; values = values }

-- a thing as the tables have it, with a short name
abbrev pub object_of : (ℕ → Bool) → List ℕ → Thing → Object
object_of additive name t = record {
  owner = owner_of t.is_class;
  parent = t.parent;
  arrows = t.arrows;
  attributes = map t.has (range_with_len 0 48);
  name = name;
  classes = t.classes;
  properties = map (λ p. property additive p.0 p.1) t.properties;
}

abbrev pub objects_of : (ℕ → Bool) → List (List ℕ) → List Thing → List Object
objects_of additive [] all = []
objects_of additive (name ∷ names) [] = []
objects_of additive (name ∷ names) (t ∷ all) = object_of additive name t ∷ objects_of additive names all

abbrev pub headed : Bool → Place → List ℕ → WorldOf → WorldOf
headed true place name w = with_class_header name w
headed false (Arrows n) name w = with_object_header (Parent.Arrows n) name w
headed false (Inside number) name w = with_object_header (Parent.Object number) name w

abbrev pub with_values : List Value → WorldOf → WorldOf
with_values values w = fold (λ w v. with_further_value v w) w values

abbrev pub given_values : ℕ → List Value → WorldOf → WorldOf
given_values n [] w = with_given_property n None w
given_values n (v ∷ values) w = with_values values (with_given_property n (Some v) w)

-- the world, and the numbers that names of individual properties have so far
pub record Run : Type 0 where
  pub world : WorldOf
  pub numbers : List (ℕ × ℕ)

abbrev pub number_in : ℕ → List (ℕ × ℕ) → Option ℕ
number_in name [] = None
number_in name (n ∷ numbers) = if n.0 == name then Some n.1 else number_in name numbers

-- An individual property that comes for the first time has the next number of the world.
abbrev pub given_as : Option ℕ → ℕ → List Value → Run → Run
given_as (Some number) name values r = record r { world = given_values number values r.world }
given_as None name values r = record {
  world = given_values (64 + r.world.individuals) values (with_individual r.world);
  numbers = (name, 64 + r.world.individuals) ∷ r.numbers;
}

abbrev pub given : PropertyName × List Value → Run → Run
given (Declared n, values) r = record r { world = given_values n values r.world }
given (Individual name, values) r = given_as (number_in name r.numbers) name values r

-- a declaration up to its last class, up to its last attribute, and as a whole

abbrev pub with_classes : List ℕ → Declaration → WorldOf → WorldOf
with_classes name d w = fold (λ w c. with_class_of c w) (headed d.is_class d.place name w) d.classes

abbrev pub with_attributes : List ℕ → Declaration → WorldOf → WorldOf
with_attributes name d w = fold (λ w h. with_set_attribute h.0 h.1 w) (with_classes name d w) d.has

abbrev pub ended : Run → Run
ended r = record r { world = with_end r.world }

abbrev pub declared : List ℕ → Declaration → Run → Run
declared name d r = ended (fold (λ r p. given p r) (record r { world = with_attributes name d r.world }) d.with)

abbrev pub all_declared : List (List ℕ) → List Declaration → Run → Run
all_declared [] declarations r = r
all_declared (name ∷ shorts) [] r = r
all_declared (name ∷ shorts) (d ∷ declarations) r = all_declared shorts declarations (declared name d r)

-- The tables have the things that the declarations make, each with its short name.
abbrev pub WorldIsThings : (ℕ → Bool) → List (List ℕ) → List Declaration → WorldOf → Type 0
WorldIsThings additive shorts declarations w =
    (all_declared shorts declarations (record { world = w; numbers = [] })).world.objects ≡ objects_of additive shorts (things additive declarations)
