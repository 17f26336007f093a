-- Parts of a body in any order: they change a world as first all classes, then all attributes, and then all properties do.
use Rattle.std.proofs.Common.{◌≡◌, ℕ, ◌+◌, ◌==◌, List, [], ◌∷◌, map, Option, Some, None, Bool, true, false, cond, refl, sym, ap, ◌∙◌}
use Rattle.std.proofs.Common.{subst, fold, is_some, length, arith}
use Rattle.std.proofs.lemmas.List.{length-map, length-reverse}
use Rattle.inf_area.specs.declared.targets.Value.{Value}
use Rattle.inf_settings.specs.Bounds.{Limits}
use Rattle.inf_properties.specs.{Open.given_first, Open.with_given, Properties.has, Values.with_last_value}
use Rattle.inf_objects.specs.declared.{body.Body.Body as BodyOf, objects.Object.Object}
use Rattle.inf_objects.specs.Objects.{is_lost, is_passed, with_joined_class, with_named_class}
use Rattle.inf_objects.specs.Tree.{child_of, sibling_of}
use Rattle.inf_tables.specs.Areas.{all_objects, first_names, parents_of}
use Rattle.inf_tables.specs.{Objects.class_at, Objects.parent_of, declared.kinds.Parent.Parent, declared.faults.Misfit.Misfit}
use Rattle.inf_tables.specs.World.{WorldOf, class_by, given_of, kind_of, lost_given, with_class_of, with_further_value, with_given_property}
use Rattle.inf_tables.specs.World.{with_hung, with_individual, with_properties, with_set_attribute}
use Rattle.std.specs.Prelude.{Result, Ok, Err}
use Rattle.inf_world_laws.specs.Declaring.{Run, all_declared, declared, ended, given, given_as, given_values, headed, number_in, with_attributes}
use Rattle.inf_world_laws.specs.Declaring.{objects_of, with_values}
use Rattle.inf_world_laws.specs.Families.{parents}
use Rattle.inf_world_laws.specs.Things.{Arrows, Declaration, Declared, Individual, Inside, Place, PropertyName, Thing, all_names, made, thing, things}
use Rattle.inf_world_laws.specs.Whole.{ClassesFit, DeclarationFits, GivenFits, IndividualFits, NoneRefused, PropertiesFit}
use Rattle.inf_world_laws.specs.Whole.{PropertyFits}
use Rattle.inf_world_laws.specs.Parts.{AreThings, BodiesAgree, BodiesFit, Body, Gives, Has, InClass, Part, PartFits, PartsFit, attributes_of, begun}
use Rattle.inf_world_laws.specs.Parts.{bodies_done, body_done, classes_of, declaration, part_done, parts_done, properties_of}
use Rattle.inf_world_laws.proofs.{Siblings.sibling_agrees, Tree.child_agrees, Whole.worlds_agree}

-- An operation that keeps what properties are given by, and may come before or behind a property

pub record Keeps (f : WorldOf → WorldOf) : Type 0 where
  pub count : (w : WorldOf) → (f w).individuals ≡ w.individuals
  pub kind : (n : ℕ) (w : WorldOf) → kind_of n (f w) ≡ kind_of n w
  pub own : (w : WorldOf) → (f w).body.properties.own ≡ w.body.properties.own
  pub given : (n : ℕ) (v : Option Value) (w : WorldOf) → f (with_given_property n v w) ≡ with_given_property n v (f w)
  pub further : (v : Value) (w : WorldOf) → f (with_further_value v w) ≡ with_further_value v (f w)
  pub individual : (w : WorldOf) → f (with_individual w) ≡ with_individual (f w)

-- Lemmas about an attribute

set_given : (a n : ℕ) (b : Bool) (v : Option Value) (w : WorldOf) (k : Option Bool)
    → with_set_attribute a b (given_of k n v w) ≡ given_of k n v (with_set_attribute a b w)
set_given a n b v w None = refl
set_given a n b v w (Some additive) = refl

pub set_keeps : (a : ℕ) (b : Bool) → Keeps (with_set_attribute a b)
set_keeps a b = record {
  count = λ w. refl;
  kind = λ n w. refl;
  own = λ w. refl;
  given = λ n v w. set_given a n b v w (kind_of n w);
  further = λ v w. refl;
  individual = λ w. refl;
}

-- Lemmas about a class

class_kept : {A : Type 0} (P : WorldOf → A) (c : ℕ) (w : WorldOf) → ((b : BodyOf) → P (record w { body = b }) ≡ P w) → (z : Bool)
    (o : Option Object) → P (cond z w (class_by o c w)) ≡ P w
class_kept P c w same true o = refl
class_kept P c w same false None = refl
class_kept P c w same false (Some class) = same (with_named_class c class w.body)

class_owns : (c : ℕ) (w : WorldOf) (z : Bool) (o : Option Object) → (cond z w (class_by o c w)).body.properties.own ≡ w.body.properties.own
class_owns c w true o = refl
class_owns c w false None = refl
class_owns c w false (Some class) = by (is_passed c w.body)
  where
    by : (p : Bool) → (cond p w.body (with_joined_class c class w.body)).properties.own ≡ w.body.properties.own
    by true = refl
    by false = refl

-- a class may come before or behind what leaves the objects and the classes of the body
class_past : (f : WorldOf → WorldOf) (c : ℕ) (w : WorldOf) → (f w).objects ≡ w.objects → is_passed c (f w).body ≡ is_passed c w.body
    → record (f w) { body = (f w).body } ≡ f (record w { body = w.body })
    → ((class : Object) → record (f w) { body = with_joined_class c class (f w).body } ≡ f (record w { body = with_joined_class c class w.body }))
    → with_class_of c (f w) ≡ f (with_class_of c w)
class_past f c w objects passed stays join =
    ap (λ o. cond (c == 0) (f w) (class_by (class_at c o) c (f w))) objects ∙ by (c == 0) (class_at c w.objects)
  where
    one : (class : Object) (p : Bool) → record (f w) { body = cond p (f w).body (with_joined_class c class (f w).body) }
        ≡ f (record w { body = cond p w.body (with_joined_class c class w.body) })
    one class true = stays
    one class false = join class

    by : (z : Bool) (o : Option Object) → cond z (f w) (class_by o c (f w)) ≡ f (cond z w (class_by o c w))
    by true o = refl
    by false None = refl
    by false (Some class) = ap (λ p. record (f w) { body = cond p (f w).body (with_joined_class c class (f w).body) }) passed
        ∙ one class (is_passed c w.body)

module _ (c n : ℕ) (v : Option Value) (w : WorldOf) where
  given_objects : (k : Option Bool) → (given_of k n v w).objects ≡ w.objects
  given_objects None = refl
  given_objects (Some additive) = refl

  given_passed : (k : Option Bool) → is_passed c (given_of k n v w).body ≡ is_passed c w.body
  given_passed None = refl
  given_passed (Some additive) = by (is_lost w.body.properties.owner)
    where
      by : (l : Bool)
          → is_passed c (with_properties (cond l (lost_given n w.body.properties) (with_given (given_first n additive v) w.body.properties))
          w).body
          ≡ is_passed c w.body
      by true = refl
      by false = refl

  given_stays : (k : Option Bool)
      → record (given_of k n v w) { body = (given_of k n v w).body } ≡ given_of k n v (record w { body = w.body })
  given_stays None = refl
  given_stays (Some additive) = refl

  given_joins : (class : Object) (k : Option Bool) → record (given_of k n v w) { body = with_joined_class c class (given_of k n v w).body }
      ≡ given_of k n v (record w { body = with_joined_class c class w.body })
  given_joins class None = refl
  given_joins class (Some additive) = by (is_lost w.body.properties.owner)
    where
      u : WorldOf
      u = record w { body = with_joined_class c class w.body }

      given_in : Bool → WorldOf → WorldOf
      given_in l x = with_properties (cond l (lost_given n x.body.properties) (with_given (given_first n additive v) x.body.properties)) x

      by : (l : Bool) → record (given_in l w) { body = with_joined_class c class (given_in l w).body } ≡ given_in l u
      by true = refl
      by false = refl

module _ (c : ℕ) (v : Value) (w : WorldOf) where
  abbrev further_in : Bool → WorldOf → WorldOf
  further_in t x = with_properties (cond t (record x.body.properties { own = with_last_value v x.body.properties.own }) x.body.properties) x

  further_passed : (t : Bool) → is_passed c (further_in t w).body ≡ is_passed c w.body
  further_passed true = refl
  further_passed false = refl

  further_joins : (class : Object) (t : Bool) → record (further_in t w) { body = with_joined_class c class (further_in t w).body }
      ≡ further_in t (record w { body = with_joined_class c class w.body })
  further_joins class true = refl
  further_joins class false = refl

class_behind_attribute : (c a : ℕ) (b : Bool) (w : WorldOf)
    → with_class_of c (with_set_attribute a b w) ≡ with_set_attribute a b (with_class_of c w)
class_behind_attribute c a b w = class_past (with_set_attribute a b) c w refl refl refl (λ class. refl)

pub class_keeps : (c : ℕ) → Keeps (with_class_of c)
class_keeps c = record {
  count = λ w. class_kept (λ w. w.individuals) c w (λ b. refl) (c == 0) (class_at c w.objects);
  kind = λ n w. class_kept (kind_of n) c w (λ b. refl) (c == 0) (class_at c w.objects);
  own = λ w. class_owns c w (c == 0) (class_at c w.objects);
  given = λ n v w.
      let k = kind_of n w in
      class_past (with_given_property n v) c w (given_objects c n v w k) (given_passed c n v w k) (given_stays c n v w k)
      (λ class. given_joins c n v w class k);
  further = λ v w.
      let t = w.body.properties.takes_values in
      class_past (with_further_value v) c w refl (further_passed c v w t) refl (λ class. further_joins c v w class t);
  individual = λ w. class_past with_individual c w refl refl refl (λ class. refl);
}

-- Such an operation and a property with all its values, in a run

abbrev lifted : (WorldOf → WorldOf) → Run → Run
lifted f r = record { world = f r.world; numbers = r.numbers }

module _ (f : WorldOf → WorldOf) (k : Keeps f) where
  values_past : (values : List Value) (w : WorldOf) → f (with_values values w) ≡ with_values values (f w)
  values_past [] w = refl
  values_past (v ∷ values) w = values_past values (with_further_value v w) ∙ ap (with_values values) (k.further v w)

  all_values_past : (n : ℕ) (values : List Value) (w : WorldOf) → f (given_values n values w) ≡ given_values n values (f w)
  all_values_past n [] w = k.given n None w
  all_values_past n (v ∷ values) w = values_past values (with_given_property n (Some v) w) ∙ ap (with_values values) (k.given n (Some v) w)

  as_past : (o : Option ℕ) (name : ℕ) (values : List Value) (r : Run)
      → lifted f (given_as o name values r) ≡ given_as o name values (lifted f r)
  as_past (Some n) name values r = ap (λ w. record { world = w; numbers = r.numbers }) (all_values_past n values r.world)
  as_past None name values r =
      let i = r.world.individuals in
      ap (λ w. record { world = w; numbers = (name, 64 + i) ∷ r.numbers })
      (all_values_past (64 + i) values (with_individual r.world) ∙ ap (given_values (64 + i) values) (k.individual r.world))
      ∙ ap (λ i. record {
        world = given_values (64 + i) values (with_individual (f r.world));
        numbers = (name, 64 + i) ∷ r.numbers;
      }) (sym (k.count r.world))

  given_past : (p : PropertyName × List Value) (r : Run) → lifted f (given p r) ≡ given p (lifted f r)
  given_past (Declared n, values) r = ap (λ w. record { world = w; numbers = r.numbers }) (all_values_past n values r.world)
  given_past (Individual name, values) r = as_past (number_in name r.numbers) name values r

  number_fits : (n : ℕ) (w : WorldOf) → GivenFits n w → GivenFits n (f w)
  number_fits n w h = (ap is_some (k.kind n w) ∙ h.0, ap (has n) (k.own w) ∙ h.1)

  individual_fits : (o : Option ℕ) (w : WorldOf) → IndividualFits o w → IndividualFits o (f w)
  individual_fits (Some n) w h = number_fits n w h
  individual_fits None w h = subst (λ i. GivenFits (64 + i) (with_individual (f w))) (sym (k.count w))
      (subst (GivenFits (64 + w.individuals)) (k.individual w) (number_fits (64 + w.individuals) (with_individual w) h))

  property_fits : (p : PropertyName) (r : Run) → PropertyFits p r → PropertyFits p (lifted f r)
  property_fits (Declared n) r h = number_fits n r.world h
  property_fits (Individual name) r h = individual_fits (number_in name r.numbers) r.world h

-- Lemmas about many classes, and many attributes

abbrev with_classes : List ℕ → Run → Run
with_classes [] r = r
with_classes (c ∷ classes) r = with_classes classes (lifted (with_class_of c) r)

abbrev with_attributes_of : List (ℕ × Bool) → Run → Run
with_attributes_of [] r = r
with_attributes_of (h ∷ has) r = with_attributes_of has (lifted (with_set_attribute h.0 h.1) r)

abbrev before_properties : List Part → Run → Run
before_properties parts r = with_attributes_of (attributes_of parts) (with_classes (classes_of parts) r)

classes_past : (g : Run → Run) → ((c : ℕ) (r : Run) → lifted (with_class_of c) (g r) ≡ g (lifted (with_class_of c) r))
    → (classes : List ℕ) (r : Run) → with_classes classes (g r) ≡ g (with_classes classes r)
classes_past g h [] r = refl
classes_past g h (c ∷ classes) r = ap (with_classes classes) (h c r) ∙ classes_past g h classes (lifted (with_class_of c) r)

attributes_past : (p : PropertyName × List Value) (has : List (ℕ × Bool)) (r : Run)
    → with_attributes_of has (given p r) ≡ given p (with_attributes_of has r)
attributes_past p [] r = refl
attributes_past p (h ∷ has) r = ap (with_attributes_of has) (given_past (with_set_attribute h.0 h.1) (set_keeps h.0 h.1) p r)
    ∙ attributes_past p has (lifted (with_set_attribute h.0 h.1) r)

all_past : (p : PropertyName × List Value) (parts : List Part) (r : Run)
    → before_properties parts (given p r) ≡ given p (before_properties parts r)
all_past p parts r = ap (with_attributes_of (attributes_of parts))
    (classes_past (given p) (λ c r. given_past (with_class_of c) (class_keeps c) p r) (classes_of parts) r)
    ∙ attributes_past p (attributes_of parts) (with_classes (classes_of parts) r)

attribute_past : (a : ℕ) (b : Bool) (parts : List Part) (r : Run)
    → before_properties parts (lifted (with_set_attribute a b) r) ≡ before_properties ((Has a b) ∷ parts) r
attribute_past a b parts r = ap (with_attributes_of (attributes_of parts)) (classes_past (lifted (with_set_attribute a b))
    (λ c r. ap (λ w. record { world = w; numbers = r.numbers }) (class_behind_attribute c a b r.world)) (classes_of parts) r)

-- Lemmas about parts in their order

abbrev all_given : List Part → Run → Run
all_given parts r = fold (λ r p. given p r) r (properties_of parts)

in_order : (parts : List Part) (r : Run) → parts_done parts r ≡ all_given parts (before_properties parts r)
in_order [] r = refl
in_order ((InClass c) ∷ parts) r = in_order parts (lifted (with_class_of c) r)
in_order ((Has a b) ∷ parts) r = in_order parts (lifted (with_set_attribute a b) r) ∙ ap (all_given parts) (attribute_past a b parts r)
in_order ((Gives p values) ∷ parts) r = in_order parts (given (p, values) r) ∙ ap (all_given parts) (all_past (p, values) parts r)

classes_fit : (p : PropertyName) (classes : List ℕ) (r : Run) → PropertyFits p r → PropertyFits p (with_classes classes r)
classes_fit p [] r h = h
classes_fit p (c ∷ classes) r h = classes_fit p classes (lifted (with_class_of c) r) (property_fits (with_class_of c) (class_keeps c) p r h)

attributes_fit : (p : PropertyName) (has : List (ℕ × Bool)) (r : Run) → PropertyFits p r → PropertyFits p (with_attributes_of has r)
attributes_fit p [] r h = h
attributes_fit p (a ∷ has) r h = attributes_fit p has (lifted (with_set_attribute a.0 a.1) r)
    (property_fits (with_set_attribute a.0 a.1) (set_keeps a.0 a.1) p r h)

properties_fit : (parts : List Part) (r : Run) → PartsFit parts r → PropertiesFit (properties_of parts) (before_properties parts r)
properties_fit [] r h = tt
properties_fit ((InClass c) ∷ parts) r h = properties_fit parts (lifted (with_class_of c) r) h.1
properties_fit ((Has a b) ∷ parts) r h = subst (PropertiesFit (properties_of parts)) (attribute_past a b parts r)
    (properties_fit parts (lifted (with_set_attribute a b) r) h.1)
properties_fit ((Gives p values) ∷ parts) r h = (
  attributes_fit p (attributes_of parts) (with_classes (classes_of parts) r) (classes_fit p (classes_of parts) r h.0),
  subst (PropertiesFit (properties_of parts)) (all_past (p, values) parts r) (properties_fit parts (given (p, values) r) h.1),
)

-- Objects that are there stay as they are within a body.

given_there : (n : ℕ) (v : Option Value) (w : WorldOf) → (with_given_property n v w).objects ≡ w.objects
given_there n v w = given_objects 0 n v w (kind_of n w)

values_there : (values : List Value) (w : WorldOf) → (with_values values w).objects ≡ w.objects
values_there [] w = refl
values_there (v ∷ values) w = values_there values (with_further_value v w)

all_values_there : (n : ℕ) (values : List Value) (w : WorldOf) → (given_values n values w).objects ≡ w.objects
all_values_there n [] w = given_there n None w
all_values_there n (v ∷ values) w = values_there values (with_given_property n (Some v) w) ∙ given_there n (Some v) w

as_there : (o : Option ℕ) (name : ℕ) (values : List Value) (r : Run) → (given_as o name values r).world.objects ≡ r.world.objects
as_there (Some n) name values r = all_values_there n values r.world
as_there None name values r = all_values_there (64 + r.world.individuals) values (with_individual r.world)

part_there : (part : Part) (r : Run) → (part_done part r).world.objects ≡ r.world.objects
part_there (InClass c) r = class_kept (λ w. w.objects) c r.world (λ b. refl) (c == 0) (class_at c r.world.objects)
part_there (Has a b) r = refl
part_there (Gives (Declared n) values) r = all_values_there n values r.world
part_there (Gives (Individual name) values) r = as_there (number_in name r.numbers) name values r

all_classes_fit : (parts : List Part) (r : Run) → PartsFit parts r → ClassesFit (classes_of parts) r.world.objects
all_classes_fit [] r h = tt
all_classes_fit (part ∷ parts) r h =
    by part h.0 (subst (ClassesFit (classes_of parts)) (part_there part r) (all_classes_fit parts (part_done part r) h.1))
  where
    by : (part : Part) → PartFits part r → ClassesFit (classes_of parts) r.world.objects
        → ClassesFit (classes_of (part ∷ parts)) r.world.objects
    by (InClass c) fits rest = (fits, rest)
    by (Has a b) fits rest = rest
    by (Gives p values) fits rest = rest

-- A body is a declaration.

hung_there : (p : Result ℕ Misfit) (arrows : ℕ) (name : List ℕ) (w : WorldOf) → (with_hung p arrows name w).objects ≡ w.objects
hung_there (Ok n) arrows name w = refl
hung_there (Err m) arrows name w = refl

headed_there : (is_class : Bool) (place : Place) (name : List ℕ) (w : WorldOf) → (headed is_class place name w).objects ≡ w.objects
headed_there true place name w = refl
headed_there false (Arrows n) name w = hung_there (parent_of (Parent.Arrows n) w.objects) n name w
headed_there false (Inside n) name w = hung_there (parent_of (Parent.Object n) w.objects) 0 name w

classes_are : (classes : List ℕ) (w : WorldOf) (numbers : List (ℕ × ℕ)) → with_classes classes (record { world = w; numbers = numbers })
    ≡ record { world = fold (λ w c. with_class_of c w) w classes; numbers = numbers }
classes_are [] w numbers = refl
classes_are (c ∷ classes) w numbers = classes_are classes (with_class_of c w) numbers

attributes_are : (has : List (ℕ × Bool)) (w : WorldOf) (numbers : List (ℕ × ℕ))
    → with_attributes_of has (record { world = w; numbers = numbers })
    ≡ record { world = fold (λ w h. with_set_attribute h.0 h.1 w) w has; numbers = numbers }
attributes_are [] w numbers = refl
attributes_are (h ∷ has) w numbers = attributes_are has (with_set_attribute h.0 h.1 w) numbers

module _ (b : Body) (r : Run) where
  before_is : before_properties b.parts (begun b r)
      ≡ record { world = with_attributes b.short (declaration b) r.world; numbers = r.numbers }
  before_is =
      let w = headed b.is_class b.place b.short r.world in
      ap (with_attributes_of (attributes_of b.parts)) (classes_are (classes_of b.parts) w r.numbers)
      ∙ attributes_are (attributes_of b.parts) (fold (λ w c. with_class_of c w) w (classes_of b.parts)) r.numbers

  body_is : body_done b r ≡ declared b.short (declaration b) r
  body_is = ap ended (in_order b.parts (begun b r)) ∙ ap (λ r. ended (all_given b.parts r)) before_is

  body_fits : (limits : Limits) → (h : BodiesFit limits (b ∷ []) r) → DeclarationFits limits b.short (declaration b) r
  body_fits limits h = record {
    head = h.0;
    classes = subst (ClassesFit (classes_of b.parts)) (headed_there b.is_class b.place b.short r.world)
        (all_classes_fit b.parts (begun b r) h.1);
    properties = subst (PropertiesFit (properties_of b.parts)) before_is (properties_fit b.parts (begun b r) h.1);
  }

module _ (limits : Limits) where
  bodies_are : (bodies : List Body) (r : Run) → bodies_done bodies r ≡ all_declared (map (λ b. b.short) bodies) (map declaration bodies) r
  bodies_are [] r = refl
  bodies_are (b ∷ bodies) r =
      bodies_are bodies (body_done b r) ∙ ap (all_declared (map (λ b. b.short) bodies) (map declaration bodies)) (body_is b r)

  bodies_fit : (bodies : List Body) (r : Run) → BodiesFit limits bodies r
      → NoneRefused limits (map (λ b. b.short) bodies) (map declaration bodies) r
  bodies_fit [] r h = tt
  bodies_fit (b ∷ bodies) r h = (
    body_fits b r limits (h.0, h.1, tt),
    subst (NoneRefused limits (map (λ b. b.short) bodies) (map declaration bodies)) (body_is b r) (bodies_fit bodies (body_done b r) h.2),
  )

-- Lemmas about the tree

first_parents : (objects : List Object) → parents_of (all_objects objects) ≡ 0 ∷ 0 ∷ 0 ∷ 0 ∷ map (λ o. o.parent) objects
unfolding first_names
first_parents objects = refl

made_length : (additive : ℕ → Bool) (names : List ℕ) (before : List Thing) (declarations : List Declaration)
    → length (made additive names before declarations) ≡ length before + length declarations
made_length additive names before [] = let same : length before ≡ length before + 0 = omega arith in same
made_length additive names before (d ∷ declarations) =
    let t = thing additive names d before in
    made_length additive names (t ∷ before) declarations
    ∙ (let same : length (t ∷ before) + length declarations ≡ length before + length (d ∷ declarations) = omega arith in same)

same_length : (additive : ℕ → Bool) (bodies : List Body)
    → length (map (λ b. b.short) bodies) ≡ length (things additive (map declaration bodies))
same_length additive bodies =
    let declarations = map declaration bodies in
    let names = all_names declarations in
    let made_all : length (made additive names [] declarations) ≡ length declarations =
    omega (arith, made_length additive names [] declarations) in
    length-map bodies (λ b. b.short) ∙ sym (length-map bodies declaration)
    ∙ sym (length-reverse (made additive names [] declarations) ∙ made_all)

parents_told : (additive : ℕ → Bool) (shorts : List (List ℕ)) (all : List Thing) → length shorts ≡ length all
    → map (λ o. o.parent) (objects_of additive shorts all) ≡ map (λ t. t.parent) all
parents_told additive [] [] e = refl
parents_told additive [] (t ∷ all) e = absurd (cc e)
parents_told additive (short ∷ shorts) [] e = absurd (cc e)
parents_told additive (short ∷ shorts) (t ∷ all) e =
    let rest : length shorts ≡ length all = omega (arith, e) in ap (λ l. t.parent ∷ l) (parents_told additive shorts all rest)

are_things : (additive : ℕ → Bool) (bodies : List Body) (objects : List Object)
    → objects ≡ objects_of additive (map (λ b. b.short) bodies) (things additive (map declaration bodies))
    → AreThings additive bodies objects
are_things additive bodies objects e =
    let all = things additive (map declaration bodies) in
    let above : parents_of (all_objects objects) ≡ parents all = first_parents objects
    ∙ ap (λ l. 0 ∷ 0 ∷ 0 ∷ 0 ∷ l) (ap (map (λ o. o.parent)) e
    ∙ parents_told additive (map (λ b. b.short) bodies) all (same_length additive bodies)) in
    record {
      are = e;
      children = λ n. ap (child_of n) above ∙ sym (child_agrees (parents all) n);
      siblings = λ n. ap (sibling_of n) above ∙ sym (sibling_agrees (parents all) n);
    }

pub bodies_agree : BodiesAgree
bodies_agree limits additive bodies w none zero kinds fits =
    let r : Run = record { world = w; numbers = [] } in
    are_things additive bodies (bodies_done bodies r).world.objects
    (ap (λ r. r.world.objects) (bodies_are limits bodies r)
    ∙ worlds_agree limits additive (map (λ b. b.short) bodies) (map declaration bodies) w none zero kinds (bodies_fit limits bodies r fits))
