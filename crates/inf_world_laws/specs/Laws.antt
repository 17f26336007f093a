-- Properties, attributes and the tree: the definitions of the tables agree with the description.
use Rattle.std.specs.Prelude.{◌≡◌, ℕ, ◌++◌, [], ◌∷◌, List, map, Bool, Option, Some, None, option_map, if◌then◌else◌, ◌==◌, slice_set}
use Rattle.std.specs.List.{flat_map, fold, range_with_len}
use Rattle.inf_area.specs.declared.targets.Value.{Value}
use Rattle.inf_properties.specs.{Properties.found, Properties.inherited, declared.values.Property.Property}
use Rattle.inf_objects.specs.{Attributes.attributes_by, Attributes.nothing_said, declared.objects.Object.Object}
use Rattle.inf_objects.specs.Tree.{child_of, children_of, sibling_of}
use Rattle.inf_tables.specs.Objects.{latest_with}
use Rattle.inf_world_laws.specs.{Declaring.object_of, Declaring.property, Families.child, Families.children, Families.sibling}
use Rattle.inf_world_laws.specs.Things.{Thing, distinct, latest, properties_of, said, values_given}

abbrev pub Properties : Type 0
Properties = List (ℕ × List Value)

abbrev pub as_properties : (ℕ → Bool) → Properties → List Property
as_properties additive properties = map (λ p. property additive p.0 p.1) properties

-- the properties of an object as the compiler makes them: those of its classes one after another, and its own over them
abbrev pub inherited_above : (ℕ → Bool) → List Property → List Properties → List Property
inherited_above additive above givers = fold (λ above g. inherited above (as_properties additive g)) above givers

abbrev pub inherited_all : (ℕ → Bool) → Properties → List Properties → List Property
inherited_all additive own givers = inherited (as_properties additive own) (inherited_above additive [] givers)

-- The property of each number is the one that the description gives.
abbrev pub ValuesAgree : Type 0
ValuesAgree =
    (additive : ℕ → Bool) (own : Properties) (givers : List Properties) (n : ℕ) →
    found n (inherited_all additive own givers) ≡ option_map (property additive n) (values_given additive (own ∷ givers) n)

-- The properties are in the order in which the own ones and those of each class come, where none of these lists has a number twice.

abbrev pub numbers_of : List Property → List ℕ
numbers_of properties = map (λ p. p.number) properties

abbrev pub AreSingle : List (List Property) → Type 0
AreSingle [] = Unit {0}
AreSingle (g ∷ givers) = (numbers_of g ≡ distinct [] (numbers_of g)) × AreSingle givers

abbrev pub OrderAgrees : Type 0
OrderAgrees =
    (own : List Property) (givers : List (List Property)) → AreSingle (own ∷ givers) →
    numbers_of (inherited own (fold (λ above g. inherited above g) [] givers)) ≡ distinct [] (flat_map numbers_of (own ∷ givers))

-- Together: the list of properties is the one that the description gives.
abbrev pub PropertiesAgree : Type 0
PropertiesAgree =
    (additive : ℕ → Bool) (own : Properties) (givers : List Properties) → AreSingle (map (as_properties additive) (own ∷ givers)) →
    inherited_all additive own givers ≡ as_properties additive (properties_of additive (own ∷ givers))

-- The latest object with some arrows is the one of the description. Things have the latest first, and the tables have it last.

abbrev pub latest_last : (ℕ → Bool) → List ℕ → List Thing → List Object
latest_last additive name [] = []
latest_last additive name (t ∷ before) = latest_last additive name before ++ object_of additive name t ∷ []

abbrev pub number_or_none : ℕ → Option ℕ
number_or_none n = if n == 0 then None else Some n

abbrev pub LatestAgree : Type 0
LatestAgree =
    (additive : ℕ → Bool) (name : List ℕ) (arrows : ℕ) (before : List Thing) →
    latest_with arrows (latest_last additive name before) ≡ number_or_none (latest arrows before)

abbrev pub ChildrenAgree : Type 0
ChildrenAgree = (above : List ℕ) (number : ℕ) → children above number ≡ children_of number above

abbrev pub ChildAgrees : Type 0
ChildAgrees = (above : List ℕ) (number : ℕ) → child above number ≡ child_of number above

abbrev pub SiblingAgrees : Type 0
SiblingAgrees = (above : List ℕ) (number : ℕ) → sibling above number ≡ sibling_of number above

-- An object has the attributes of the description, where its body says something of some and classes have those of `above`.
abbrev pub AttributesAgree : Type 0
AttributesAgree =
    (above : ℕ → Bool) (has : List (ℕ × Bool)) →
    attributes_by (map above (range_with_len 0 48)) (fold (λ said h. slice_set said h.0 (Some h.1)) nothing_said has)
    ≡ map (λ a. said a (above a) has) (range_with_len 0 48)
