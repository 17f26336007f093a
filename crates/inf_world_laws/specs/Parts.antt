-- The bodies of objects and classes by their parts. Classes, attributes and properties may come in any order there, as `with`, `has` and
-- `class` do in a source.
use Rattle.std.specs.Prelude.{◌≡◌, ℕ, List, [], ◌∷◌, Bool, map}
use Rattle.inf_area.specs.declared.targets.Value.{Value}
use Rattle.inf_settings.specs.Bounds.{Limits}
use Rattle.inf_objects.specs.{Tree.child_of, Tree.sibling_of, declared.objects.Object.Object}
use Rattle.inf_tables.specs.Areas.{all_objects, parents_of}
use Rattle.inf_tables.specs.World.{WorldOf, with_class_of, with_set_attribute}
use Rattle.inf_world_laws.specs.Declaring.{Run, ended, given, headed, objects_of}
use Rattle.inf_world_laws.specs.Families.{child, parents, sibling}
use Rattle.inf_world_laws.specs.Things.{Declaration, Place, PropertyName, things}
use Rattle.inf_world_laws.specs.Whole.{AreKinds, ClassFits, HeadFits, PropertyFits}

pub data Part : Type 0 where
  InClass : ℕ → Part  -- a class, by its number
  Has : ℕ → Bool → Part  -- an attribute that is given (true) or taken away
  Gives : PropertyName → List Value → Part  -- a property with its values

-- an object or a class, with the bytes of its short name
pub record Body : Type 0 where
  pub is_class : Bool
  pub place : Place
  pub short : List ℕ
  pub parts : List Part

-- The declaration that a body is: what it says of classes, of attributes and of properties, each in its order

abbrev pub classes_of : List Part → List ℕ
classes_of [] = []
classes_of ((InClass c) ∷ parts) = c ∷ classes_of parts
classes_of ((Has a is_given) ∷ parts) = classes_of parts
classes_of ((Gives p values) ∷ parts) = classes_of parts

abbrev pub attributes_of : List Part → List (ℕ × Bool)
attributes_of [] = []
attributes_of ((InClass c) ∷ parts) = attributes_of parts
attributes_of ((Has a is_given) ∷ parts) = (a, is_given) ∷ attributes_of parts
attributes_of ((Gives p values) ∷ parts) = attributes_of parts

abbrev pub properties_of : List Part → List (PropertyName × List Value)
properties_of [] = []
properties_of ((InClass c) ∷ parts) = properties_of parts
properties_of ((Has a is_given) ∷ parts) = properties_of parts
properties_of ((Gives p values) ∷ parts) = (p, values) ∷ properties_of parts

abbrev pub declaration : Body → Declaration
declaration b = record {
  is_class = b.is_class;
  place = b.place;
  classes = classes_of b.parts;
  has = attributes_of b.parts;
  with = properties_of b.parts;
}

-- The operations of the tables for each part, in the order of the parts

abbrev pub part_done : Part → Run → Run
part_done (InClass c) r = record { world = with_class_of c r.world; numbers = r.numbers }
part_done (Has a is_given) r = record { world = with_set_attribute a is_given r.world; numbers = r.numbers }
part_done (Gives p values) r = given (p, values) r

abbrev pub parts_done : List Part → Run → Run
parts_done [] r = r
parts_done (part ∷ parts) r = parts_done parts (part_done part r)

abbrev pub begun : Body → Run → Run
begun b r = record { world = headed b.is_class b.place b.short r.world; numbers = r.numbers }

abbrev pub body_done : Body → Run → Run
body_done b r = ended (parts_done b.parts (begun b r))

abbrev pub bodies_done : List Body → Run → Run
bodies_done [] r = r
bodies_done (b ∷ bodies) r = bodies_done bodies (body_done b r)

-- None of them is refused.

abbrev pub PartFits : Part → Run → Type 0
PartFits (InClass c) r = ClassFits c r.world.objects
PartFits (Has a is_given) r = Unit {0}
PartFits (Gives p values) r = PropertyFits p r

abbrev pub PartsFit : List Part → Run → Type 0
PartsFit [] r = Unit {0}
PartsFit (part ∷ parts) r = PartFits part r × PartsFit parts (part_done part r)

abbrev pub BodiesFit : Limits → List Body → Run → Type 0
BodiesFit limits [] r = Unit {0}
BodiesFit limits (b ∷ bodies) r =
    HeadFits limits b.is_class b.place b.short r.world × PartsFit b.parts (begun b r) × BodiesFit limits bodies (body_done b r)

-- Objects are the things that declarations make, each with its short name, and in the tree of a story each number has the child and the
-- sibling of the description.
pub record AreThings (additive : ℕ → Bool) (bodies : List Body) (objects : List Object) : Type 0 where
  pub are : objects ≡ objects_of additive (map (λ b. b.short) bodies) (things additive (map declaration bodies))
  pub children : (number : ℕ)
      → child_of number (parents_of (all_objects objects)) ≡ child (parents (things additive (map declaration bodies))) number
  pub siblings : (number : ℕ)
      → sibling_of number (parents_of (all_objects objects)) ≡ sibling (parents (things additive (map declaration bodies))) number

-- Any list of bodies: the objects of the tables are the things that their declarations make.
abbrev pub BodiesAgree : Type 0
BodiesAgree =
    (limits : Limits) (additive : ℕ → Bool) (bodies : List Body) (w : WorldOf) →
    w.objects ≡ [] → w.individuals ≡ 0 → AreKinds additive w → BodiesFit limits bodies (record { world = w; numbers = [] }) →
    AreThings additive bodies (bodies_done bodies (record { world = w; numbers = [] })).world.objects
