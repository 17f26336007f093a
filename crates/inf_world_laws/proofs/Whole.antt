-- Any list of declarations: each adds the thing of the description to the objects of the tables.
use Rattle.std.proofs.Common.{◌≡◌, ◌<◌, ℕ, ◌+◌, ◌==◌, List, [], ◌∷◌, ◌++◌, append_assoc, append-nil, length, map, Option, Some, None}
use Rattle.std.proofs.Common.{Bool, true, false, cond, refl, sym, ap, ◌∙◌, subst, arith, reverse, flat_map, fold, slice_set}
use Rattle.std.proofs.lemmas.List.{reverse-append}
use Rattle.std.specs.List.{list_any, range_with_len}
use Rattle.inf_settings.specs.Bounds.{Limits}
use Rattle.inf_area.specs.declared.targets.Value.{Value}
use Rattle.inf_properties.specs.Properties.{inherited}
use Rattle.inf_objects.specs.{Attributes.no_attributes, Attributes.nothing_said, Objects.ended, Objects.is_lost}
use Rattle.inf_tables.specs.{declared.kinds.DeclaredProperty.DeclaredProperty, World.WorldOf}
use Rattle.inf_tables.specs.World.{with_class_of, with_set_attribute}
use Rattle.inf_world_laws.specs.Declaring.{Run, all_declared, declared, ended as run_ended, given, object_of, objects_of, owner_of, with_attributes}
use Rattle.inf_world_laws.specs.{Laws.AreSingle, Laws.as_properties, Laws.inherited_above, Laws.inherited_all, Laws.numbers_of}
use Rattle.inf_world_laws.specs.Things.{Declaration, Thing, all_names, classes_in, contains, distinct, giving, made, names_in, number_of}
use Rattle.inf_world_laws.specs.Things.{properties_of, thing, thing_at, things, with_own}
use Rattle.inf_world_laws.specs.Whole.{AreKinds, DeclarationFits, NoneRefused, PropertiesFit, WorldsAgree}
use Rattle.inf_world_laws.proofs.{Attributes.attributes_agree, Lists.numbers_are, Lists.fold_map, Lists.properties_agree}
use Rattle.inf_world_laws.proofs.Order.{order_agrees}
use Rattle.inf_world_laws.proofs.Lookup.{Named, begun_as, headed_is, object_in, things_in, things_length, told}
use Rattle.inf_world_laws.proofs.Classes.{AreWhole, IsClosed, IsWhole, all_classes, classed, distinct_again, flags, nothing_closed}
use Rattle.inf_world_laws.proofs.Given.{Numbered, all_given, as_given, placed}

-- Lemmas about things in the order of their numbers

abbrev more : (ℕ → Bool) → List ℕ → List Thing → List Declaration → List Thing
more additive names before [] = []
more additive names before (d ∷ declarations) =
    let t = thing additive names d before in t ∷ more additive names (t ∷ before) declarations

reverse_made : (additive : ℕ → Bool) (names : List ℕ) (before : List Thing) (declarations : List Declaration)
    → reverse (made additive names before declarations) ≡ reverse before ++ more additive names before declarations
reverse_made additive names before [] = sym (append-nil (reverse before))
reverse_made additive names before (d ∷ declarations) =
    let t = thing additive names d before in
    reverse_made additive names (t ∷ before) declarations
    ∙ ap (λ l. l ++ more additive names (t ∷ before) declarations) (reverse-append (t ∷ []) before)
    ∙ append_assoc (reverse before) (t ∷ []) (more additive names (t ∷ before) declarations)

-- Lemmas about one more thing

closed_more : (before : List Thing) (t : Thing) (l : List ℕ) → IsClosed before l → IsClosed (t ∷ before) l
closed_more before t l i = record {
  within = λ c e. let less : c < 5 + length before = i.within c e in omega (arith, less);
  closed = λ c n e h. i.closed c n e (sym (ap (λ o. contains (classes_in o) n) (older c (i.within c e))) ∙ h);
}
  where
    older : (c : ℕ) → c < 5 + length before → thing_at c (t ∷ before) ≡ thing_at c before
    older c less =
        let other : (c == 5 + length before) ≡ false = grind arith in ap (λ b. cond b (Some t) (thing_at c before)) other

whole_more : (before : List Thing) (t u : Thing) → IsWhole before u → IsWhole (t ∷ before) u
whole_more before t u i =
    record { classes = closed_more before t u.classes i.classes; single = i.single; properties = i.properties }

all_whole : (before : List Thing) (t : Thing) → AreWhole before → IsWhole before t → AreWhole (t ∷ before)
all_whole before t old new c u e = by (c == 5 + length before) e (old c u)
  where
    by : (b : Bool) → cond b (Some t) (thing_at c before) ≡ Some u → (thing_at c before ≡ Some u → IsWhole before u)
        → IsWhole (t ∷ before) u
    by true e rest = let same : t ≡ u = cc in subst (IsWhole (t ∷ before)) same (whole_more before t t new)
    by false e rest = whole_more before t u (rest e)

-- Lemmas about attributes of a body, one by one

abbrev with_said : WorldOf → List (Option Bool) → WorldOf
with_said w said = record w { body = record w.body { said = said } }

all_said : (has : List (ℕ × Bool)) (w : WorldOf) → fold (λ w h. with_set_attribute h.0 h.1 w) w has
    ≡ with_said w (fold (λ said h. slice_set said h.0 (Some h.1)) w.body.said has)
all_said [] w = refl
all_said (h ∷ has) w = all_said has (with_set_attribute h.0 h.1 w)

none_given : no_attributes ≡ flags (λ a. false)
unfolding no_attributes
none_given = refl

-- A run stands behind some declarations: its objects are the things so far, and names have their numbers.
pub record Stands (additive : ℕ → Bool) (names done : List ℕ) (declared : List DeclaredProperty) (all : List Named) (r : Run)
    : Type 0 where
  pub objects : r.world.objects ≡ told additive all
  pub kinds : r.world.declared ≡ declared
  pub whole : AreWhole (things_in all)
  pub numbered : Numbered names done r.world.individuals r.numbers

owned_by : (b : Bool) → is_lost (owner_of b) ≡ false
owned_by true = refl
owned_by false = refl

module _ (limits : Limits) (additive : ℕ → Bool) (names : List ℕ) where
  -- properties that are inherited have no number twice
  properties_single : (own : List (ℕ × List Value))
      (givers : List (List (ℕ × List Value)))
      → AreSingle (map (as_properties additive) (own ∷ givers))
      → map (λ p. p.0) (properties_of additive (own ∷ givers)) ≡ distinct [] (map (λ p. p.0) (properties_of additive (own ∷ givers)))
  properties_single own givers single =
      let l = properties_of additive (own ∷ givers) in
      let ns = flat_map numbers_of (map (as_properties additive) (own ∷ givers)) in
      let are : map (λ p. p.0) l ≡ distinct [] ns =
      sym (numbers_are additive l) ∙ ap numbers_of (sym (properties_agree additive own givers single))
      ∙ ap (λ above. numbers_of (inherited (as_properties additive own) above))
      (sym (fold_map additive [] givers))
      ∙ order_agrees (as_properties additive own) (map (as_properties additive) givers) single in
      are ∙ sym (ap (distinct []) are ∙ distinct_again ns)

  -- Behind a declaration
  declared_stands : (kinds : List DeclaredProperty) (done rest : List ℕ) (all : List Named) (name : List ℕ) (d : Declaration) (r : Run)
      → names ≡ distinct [] (done ++ (names_in d.with ++ rest)) → AreKinds additive (record r.world { declared = kinds })
      → Stands additive names done kinds all r → DeclarationFits limits name d r
      → Stands additive names (done ++ names_in d.with) kinds ((name, thing additive names d (things_in all)) ∷ all) (declared name d r)
  declared_stands kinds done rest all name d r e are s fits =
      let before = things_in all in
      let named_with = with_own before in
      let givers = giving before [] d.classes in
      let above : ℕ → Bool = λ a. list_any (λ c. c.has a) givers in
      let lists = map (λ c. c.properties) givers in
      let own = map (λ p. (number_of names p.0, p.1)) d.with in
      let v = begun_as additive d.is_class d.place name all r.world in
      let owned = owned_by d.is_class in
      let head = headed_is additive limits d.is_class d.place name all r.world s.objects fits.head in
      let opens : v ≡ classed additive v [] (flags (λ a. false)) [] = ap (λ a. classed additive v [] a []) none_given in
      let j = all_classes additive all v s.objects owned s.whole d.classes [] [] [] (λ a. false) [] refl (λ n. refl)
      (nothing_closed before) fits.classes in
      let l = distinct [] (flat_map named_with d.classes) in
      let joined = inherited_above additive [] lists in
      let w = classed additive v l (flags above) joined in
      let said = fold (λ said h. slice_set said h.0 (Some h.1)) nothing_said d.has in
      let u = with_said w said in
      let attributes : with_attributes name d r.world ≡ u =
      ap (λ w. fold (λ w h. with_set_attribute h.0 h.1 w) (fold (λ w c. with_class_of c w) w d.classes) d.has) (head ∙ opens)
      ∙ ap (λ w. fold (λ w h. with_set_attribute h.0 h.1 w) w d.has) j.is
      ∙ all_said d.has w in
      let kind_there : AreKinds additive u =
      subst (λ k. AreKinds additive (record u { declared = k })) (sym s.kinds) (λ n m b h. are n m b h) in
      let g = all_given additive u kind_there owned d.with names done rest r.world.individuals [] false r.numbers e s.numbered refl
      (subst (λ w. PropertiesFit d.with (record { world = w; numbers = r.numbers })) attributes fits.properties) in
      let ends : declared name d r ≡ run_ended (record {
        world = placed additive u kind_there owned g.count (as_given additive u kind_there owned names d.with) g.takes;
        numbers = g.numbers;
      }) =
      ap (λ w. run_ended (fold (λ r p. given p r) (record { world = w; numbers = r.numbers }) d.with))
      attributes
      ∙ ap run_ended g.is in
      let single : AreSingle (map (as_properties additive) (own ∷ lists)) = (g.single, j.single) in
      let t = thing additive names d before in
      let object : ended
      (placed additive u kind_there owned g.count (as_given additive u kind_there owned names d.with) g.takes).body
      ≡ object_of additive name t =
      ap (λ a. record (object_of additive name t) { attributes = a; properties = inherited_all additive own lists })
      (attributes_agree above d.has)
      ∙ ap (λ p. record (object_of additive name t) { properties = p }) (properties_agree additive own lists single) in
      subst (λ r. Stands additive names (done ++ names_in d.with) kinds ((name, t) ∷ all) r) (sym ends) (record {
        objects = ap (λ b. r.world.objects ++ cond b [] (ended
            (placed additive u kind_there owned g.count (as_given additive u kind_there owned names d.with) g.takes).body
            ∷ [])) owned
            ∙ ap (λ o. r.world.objects ++ o ∷ []) object
            ∙ ap (λ l. l ++ object_of additive name t ∷ []) s.objects;
        kinds = s.kinds;
        whole = all_whole before t s.whole (record {
          classes = j.closed;
          single = sym (distinct_again (flat_map named_with d.classes));
          properties = properties_single own lists single;
        });
        numbered = g.numbered;
      })

  -- Behind all declarations
  run_is : (kinds : List DeclaredProperty) (shorts : List (List ℕ)) (declarations : List Declaration) (done : List ℕ) (all : List Named)
      (r : Run) → names ≡ distinct [] (done ++ flat_map (λ d. names_in d.with) declarations)
      → AreKinds additive (record r.world { declared = kinds }) → Stands additive names done kinds all r
      → NoneRefused limits shorts declarations r
      → (all_declared shorts declarations r).world.objects
      ≡ told additive all ++ objects_of additive shorts (more additive names (things_in all) declarations)
  run_is kinds [] declarations done all r e are s fits = s.objects ∙ sym (append-nil (told additive all))
  run_is kinds (name ∷ shorts) [] done all r e are s fits = s.objects ∙ sym (append-nil (told additive all))
  run_is kinds (name ∷ shorts) (d ∷ declarations) done all r e are s fits =
      let t = thing additive names d (things_in all) in
      let rest = flat_map (λ d. names_in d.with) declarations in
      run_is kinds shorts declarations (done ++ names_in d.with) ((name, t) ∷ all) (declared name d r)
      (e ∙ ap (distinct []) (sym (append_assoc done (names_in d.with) rest)))
      (λ n m b h. are n m b h)
      (declared_stands kinds done rest all name d r e are s fits.0) fits.1
      ∙ append_assoc (told additive all) (object_of additive name t ∷ [])
      (objects_of additive shorts (more additive names (t ∷ things_in all) declarations))

nothing_whole : AreWhole []
nothing_whole c t e = absurd (cc e)

pub worlds_agree : WorldsAgree
worlds_agree limits additive shorts declarations w none zero kinds fits =
    let names = all_names declarations in
    run_is limits additive names w.declared shorts declarations [] [] (record { world = w; numbers = [] }) refl kinds
    (record { objects = none; kinds = refl; whole = nothing_whole; numbered = record { counted = zero; known = λ x. refl } }) fits
    ∙ ap (objects_of additive shorts) (sym (reverse_made additive names [] declarations))
