-- Any list of declarations: the operations of the tables, of which none is refused, come to the things of the description.
use Rattle.std.specs.Prelude.{◌≡◌, ℕ, ◌+◌, ◌==◌, List, [], ◌∷◌, Bool, true, false, Option, Some, None, is_some}
use Rattle.inf_area.specs.declared.targets.Value.{Value}
use Rattle.inf_settings.specs.Bounds.{Limits}
use Rattle.inf_properties.specs.Properties.{has}
use Rattle.inf_objects.specs.declared.objects.Object.{Object}
use Rattle.inf_tables.specs.{Objects.class_at, declared.kinds.Parent.Parent}
use Rattle.inf_tables.specs.World.{WorldOf, class_header_fault, kind_of, object_header_fault, with_individual}
use Rattle.inf_world_laws.specs.Declaring.{Run, WorldIsThings, declared, given, number_in, with_attributes}
use Rattle.inf_world_laws.specs.Things.{Arrows, Declaration, Declared, Individual, Inside, Place, PropertyName}

-- Where a property is one of the world, it is additive as it was declared, however many individual properties there are.
abbrev pub AreKinds : (ℕ → Bool) → WorldOf → Type 0
AreKinds additive w = (individuals n : ℕ) (b : Bool) → kind_of n (record w { individuals = individuals }) ≡ Some b → b ≡ additive n

-- Nothing is refused: a header fits; each class is one that was declared before; and each property is one that there is, and was not given
-- in the body before.

abbrev pub HeadFits : Limits → Bool → Place → List ℕ → WorldOf → Type 0
HeadFits limits true place name w = class_header_fault limits name w ≡ None
HeadFits limits false (Arrows n) name w = object_header_fault limits (Parent.Arrows n) name w ≡ None
HeadFits limits false (Inside number) name w = object_header_fault limits (Parent.Object number) name w ≡ None

abbrev pub ClassFits : ℕ → List Object → Type 0
ClassFits c objects = ((c == 0) ≡ false) × (is_some (class_at c objects) ≡ true)

abbrev pub ClassesFit : List ℕ → List Object → Type 0
ClassesFit [] objects = Unit {0}
ClassesFit (c ∷ classes) objects = ClassFits c objects × ClassesFit classes objects

abbrev pub GivenFits : ℕ → WorldOf → Type 0
GivenFits n w = (is_some (kind_of n w) ≡ true) × (has n w.body.properties.own ≡ false)

abbrev pub IndividualFits : Option ℕ → WorldOf → Type 0
IndividualFits (Some number) w = GivenFits number w
IndividualFits None w = GivenFits (64 + w.individuals) (with_individual w)

abbrev pub PropertyFits : PropertyName → Run → Type 0
PropertyFits (Declared n) r = GivenFits n r.world
PropertyFits (Individual name) r = IndividualFits (number_in name r.numbers) r.world

abbrev pub PropertiesFit : List (PropertyName × List Value) → Run → Type 0
PropertiesFit [] r = Unit {0}
PropertiesFit (p ∷ with) r = PropertyFits p.0 r × PropertiesFit with (given p r)

pub record DeclarationFits (limits : Limits) (name : List ℕ) (d : Declaration) (r : Run) : Type 0 where
  pub head : HeadFits limits d.is_class d.place name r.world
  pub classes : ClassesFit d.classes r.world.objects
  pub properties : PropertiesFit d.with (record r { world = with_attributes name d r.world })

abbrev pub NoneRefused : Limits → List (List ℕ) → List Declaration → Run → Type 0
NoneRefused limits [] declarations r = Unit {0}
NoneRefused limits (name ∷ shorts) [] r = Unit {0}
NoneRefused limits (name ∷ shorts) (d ∷ declarations) r =
    DeclarationFits limits name d r × NoneRefused limits shorts declarations (declared name d r)

abbrev pub WorldsAgree : Type 0
WorldsAgree =
    (limits : Limits) (additive : ℕ → Bool) (shorts : List (List ℕ)) (declarations : List Declaration) (w : WorldOf) →
    w.objects ≡ [] → w.individuals ≡ 0 → AreKinds additive w →
    NoneRefused limits shorts declarations (record { world = w; numbers = [] }) → WorldIsThings additive shorts declarations w
