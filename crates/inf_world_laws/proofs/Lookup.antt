-- Things that have names, the latest first, as the tables have them: what is found by a number and by arrows, and headers.
use Rattle.std.proofs.Common.{◌≡◌, ◌<◌, ℕ, zero, suc, ◌+◌, ◌-◌, ◌==◌, ◌&&◌, not, List, [], ◌∷◌, ◌++◌, length, length-append, map, Option, Some, None}
use Rattle.std.proofs.Common.{option_map, Bool, true, false, cond, refl, sym, ap, ◌∙◌, subst, arith, is_some, nat_le, Result, Ok, Err}
use Rattle.std.proofs.lemmas.{Bool.Decides.nat_tests, Option.slice_get_past}
use Rattle.std.specs.Prelude.{slice_get}
use Rattle.inf_properties.specs.declared.sizes.Owner.{Owner}
use Rattle.inf_objects.specs.{Objects.begun, declared.objects.Object.Object}
use Rattle.inf_settings.specs.Bounds.{Limits}
use Rattle.inf_tables.specs.Objects.{class_at, class_in, declared_at, has_arrows, is_class, is_object, latest_with, or_latest, parent_above}
use Rattle.inf_tables.specs.{declared.faults.Misfit.Misfit, declared.faults.WorldFault.WorldFault, declared.kinds.Parent.Parent}
use Rattle.inf_tables.specs.World.{WorldOf, hung_fault, with_body, with_hung}
use Rattle.inf_world_laws.specs.{Declaring.headed, Declaring.object_of, Declaring.owner_of, Laws.number_or_none, Whole.HeadFits}
use Rattle.inf_world_laws.specs.Things.{Arrows, Inside, Place, Thing, arrows_of, latest, parent_by, thing_at}
use Rattle.inf_world_laws.proofs.Tree.{choose, from_end, has_is, here}

abbrev pub Named : Type 0
Named = List ℕ × Thing

abbrev pub things_in : List Named → List Thing
things_in all = map (λ p. p.1) all

abbrev pub named_at : ℕ → List Named → Option Named
named_at number [] = None
named_at number (p ∷ all) = cond (number == 5 + length all) (Some p) (named_at number all)

pub things_length : (all : List Named) → length (things_in all) ≡ length all
things_length [] = refl
things_length (p ∷ all) = ap suc (things_length all)

choose_map : {A B : Type 0} (f : A → B) (b : Bool) (x : A) (y : Option A)
    → cond b (Some (f x)) (option_map f y) ≡ option_map f (cond b (Some x) y)
choose_map f true x y = refl
choose_map f false x y = refl

pub thing_is : (number : ℕ) (all : List Named) → thing_at number (things_in all) ≡ option_map (λ p. p.1) (named_at number all)
thing_is number [] = refl
thing_is number (p ∷ all) = ap (λ n. cond (number == 5 + n) (Some p.1) (thing_at number (things_in all))) (things_length all)
    ∙ ap (λ t. cond (number == 5 + length all) (Some p.1) t) (thing_is number all)
    ∙ choose_map (λ p. p.1) (number == 5 + length all) p (named_at number all)

-- a number that is found is one of those before the next
pub found_within : (number : ℕ) (all : List Named) (p : Named) → named_at number all ≡ Some p → number < 5 + length all
found_within number [] p e = absurd (cc e)
found_within number (q ∷ all) p e = by (number == 5 + length all) refl e (found_within number all p)
  where
    by : (b : Bool) → (number == 5 + length all) ≡ b → cond b (Some q) (named_at number all) ≡ Some p
        → (named_at number all ≡ Some p → number < 5 + length all) → number < 5 + length (q ∷ all)
    by true h e before = let same : number ≡ 5 + length all = grind arith in omega (arith, same)
    by false h e before = let less : number < 5 + length all = before e in omega (arith, less)

same_test : (n m : ℕ) → (suc n == suc m) ≡ (n == m)
same_test n m = by (n == m) refl
  where
    by : (b : Bool) → (n == m) ≡ b → (suc n == suc m) ≡ b
    by true e = grind arith
    by false e = grind arith

at_end : {A : Type 0} (xs : List A) (o : A) (n : ℕ) → slice_get (xs ++ o ∷ []) n ≡ cond (n == length xs) (Some o) (slice_get xs n)
at_end [] o zero = refl
at_end [] o (suc n) =
    let other : (suc n == 0) ≡ false = grind arith in
    slice_get_past [] n (omega arith) ∙ sym (slice_get_past [] (suc n) (omega arith))
    ∙ ap (λ b. cond b (Some o) (slice_get [] (suc n))) (sym other)
at_end (x ∷ xs) o zero =
    let other : (0 == suc (length xs)) ≡ false = grind arith in ap (λ b. cond b (Some o) (Some x)) (sym other)
at_end (x ∷ xs) o (suc n) = at_end xs o n ∙ ap (λ b. cond b (Some o) (slice_get xs n)) (sym (same_test n (length xs)))

module _ (additive : ℕ → Bool) where
  abbrev pub object_in : Named → Object
  object_in p = object_of additive p.0 p.1

  -- the objects of the tables, in the order of their numbers
  abbrev pub told : List Named → List Object
  told [] = []
  told (p ∷ all) = told all ++ object_in p ∷ []

  pub told_length : (all : List Named) → length (told all) ≡ length all
  told_length [] = refl
  told_length (p ∷ all) = length-append (told all) (object_in p ∷ []) ∙ ap (λ n. n + 1) (told_length all)
      ∙ (let h : length all + 1 ≡ length (p ∷ all) = omega arith in h)

  next_by : (number n : ℕ) (o : Object) (y : Option Object) (b : Bool) → nat_le number 4 ≡ b
      → cond b None (cond (number - 5 == n) (Some o) y) ≡ cond (number == 5 + n) (Some o) (cond b None y)
  next_by number n o y true h =
      let other : (number == 5 + n) ≡ false = grind (arith, nat_tests) in ap (λ c. cond c (Some o) None) (sym other)
  next_by number n o y false h =
      let same : (number - 5 == n) ≡ (number == 5 + n) = by_place (number == 5 + n) refl in
      ap (λ c. cond c (Some o) y) same
    where
      by_place : (c : Bool) → (number == 5 + n) ≡ c → (number - 5 == n) ≡ c
      by_place true e = grind (arith, nat_tests)
      by_place false e = grind (arith, nat_tests)

  pub declared_is : (number : ℕ) (all : List Named) → declared_at number (told all) ≡ option_map object_in (named_at number all)
  declared_is number [] = none (nat_le number 4)
    where
      none : (b : Bool) → cond b None (slice_get {X = Object} [] (number - 5)) ≡ None
      none true = refl
      none false = slice_get_past [] (number - 5) (omega arith)
  declared_is number (p ∷ all) =
      let o = object_in p in
      ap (λ x. cond (nat_le number 4) None x) (at_end (told all) o (number - 5)
      ∙ ap (λ n. cond (number - 5 == n) (Some o) (slice_get (told all) (number - 5))) (told_length all))
      ∙ next_by number (length all) o (slice_get (told all) (number - 5)) (nat_le number 4) refl
      ∙ ap (λ x. cond (number == 5 + length all) (Some o) x) (declared_is number all)
      ∙ choose_map object_in (number == 5 + length all) p (named_at number all)

  pub latest_is : (arrows : ℕ) (all : List Named) → latest_with arrows (told all) ≡ number_or_none (latest arrows (things_in all))
  latest_is arrows [] = refl
  latest_is arrows (p ∷ all) =
      let o = object_in p in
      let t = p.1 in
      from_end arrows 5 (told all) o
      ∙ ap (λ l. or_latest (here (has_arrows arrows o) (5 + length (told all))) l) (latest_is arrows all)
      ∙ ap (λ n. or_latest (here (has_arrows arrows o) (5 + n)) (number_or_none (latest arrows (things_in all))))
      (told_length all ∙ sym (things_length all))
      ∙ ap (λ b. or_latest (here b (5 + length (things_in all))) (number_or_none (latest arrows (things_in all))))
      (has_is additive p.0 arrows t t.is_class refl)
      ∙ choose (not t.is_class && t.arrows == arrows) (length (things_in all)) (latest arrows (things_in all))

  -- Lemmas about headers

  not_open : (b : Bool) (f : WorldFault) (g : Option WorldFault) → cond b (Some f) g ≡ None → g ≡ None
  not_open true f g e = absurd (cc e)
  not_open false f g e = e

  hung_inside : (limits : Limits) (number : ℕ) (name : List ℕ) (w : WorldOf) (b : Bool)
      → hung_fault limits (cond b (Ok number) (Err Misfit.NotAnObject)) 0 name w ≡ None
      → with_hung (cond b (Ok number) (Err Misfit.NotAnObject)) 0 name w ≡ with_body (begun Owner.Object number 0 name) w
  hung_inside limits number name w true e = refl
  hung_inside limits number name w false e = absurd (cc e)

  hung_below : (limits : Limits) (k arrows : ℕ) (name : List ℕ) (w : WorldOf) (b : Bool)
      → hung_fault limits (parent_above (cond b None (Some k))) arrows name w ≡ None
      → with_hung (parent_above (cond b None (Some k))) arrows name w ≡ with_body (begun Owner.Object k arrows name) w
  hung_below limits k arrows name w true e = absurd (cc e)
  hung_below limits k arrows name w false e = refl

  abbrev pub begun_as : Bool → Place → List ℕ → List Named → WorldOf → WorldOf
  begun_as is_class place name all w =
      with_body (begun (owner_of is_class) (cond is_class 1 (parent_by place (things_in all))) (cond is_class 0 (arrows_of place)) name) w

  pub headed_is : (limits : Limits) (is_class : Bool) (place : Place) (name : List ℕ) (all : List Named) (w : WorldOf)
      → w.objects ≡ told all → HeadFits limits is_class place name w
      → headed is_class place name w ≡ begun_as is_class place name all w
  headed_is limits true place name all w are fits = refl
  headed_is limits false (Inside number) name all w are fits =
      hung_inside limits number name w (is_object number w.objects) (not_open w.is_open _ _ fits)
  headed_is limits false (Arrows zero) name all w are fits = refl
  headed_is limits false (Arrows (suc n)) name all w are fits =
      let before = things_in all in
      let found : latest_with n w.objects ≡ number_or_none (latest n before) = ap (latest_with n) are ∙ latest_is n all in
      let free : hung_fault limits (parent_above (number_or_none (latest n before))) (suc n) name w ≡ None =
      ap (λ o. hung_fault limits (parent_above o) (suc n) name w) (sym found) ∙ not_open w.is_open _ _ fits in
      ap (λ o. with_hung (parent_above o) (suc n) name w) found
      ∙ hung_below limits (latest n before) (suc n) name w (latest n before == 0) free

  -- Lemmas about classes

  pub record IsClass (c : ℕ) (all : List Named) (w : WorldOf) : Type 0 where
    pub named : Named
    pub there : named_at c all ≡ Some named
    pub found : class_at c w.objects ≡ Some (object_in named)

  class_by : (c : ℕ) (all : List Named) (w : WorldOf) (p : Named) (b : Bool) → named_at c all ≡ Some p
      → class_at c w.objects ≡ cond (is_class (owner_of b)) (Some (object_in p)) None → is_some (class_at c w.objects) ≡ true
      → IsClass c all w
  class_by c all w p true at e fits = record { named = p; there = at; found = e }
  class_by c all w p false at e fits = absurd (cc (ap is_some (sym e) ∙ fits))

  class_in_all : (c : ℕ) (all : List Named) (w : WorldOf) (o : Option Named) → named_at c all ≡ o
      → class_at c w.objects ≡ class_in (option_map object_in o) → is_some (class_at c w.objects) ≡ true → IsClass c all w
  class_in_all c all w None at e fits = absurd (cc (ap is_some (sym e) ∙ fits))
  class_in_all c all w (Some p) at e fits = class_by c all w p p.1.is_class at e fits

  pub class_there : (c : ℕ) (all : List Named) (w : WorldOf) → w.objects ≡ told all → is_some (class_at c w.objects) ≡ true
      → IsClass c all w
  class_there c all w are fits = class_in_all c all w (named_at c all) refl (ap (class_at c) are ∙ ap class_in (declared_is c all)) fits
