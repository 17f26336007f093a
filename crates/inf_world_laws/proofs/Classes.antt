-- Classes of a body, one by one: its list of classes, what classes have of attributes, and their properties are those of the description.
use Rattle.std.proofs.Common.{◌≡◌, ◌<◌, ℕ, ◌+◌, ◌==◌, ◌||◌, List, [], ◌∷◌, ◌++◌, append_assoc, append-nil, length, map, Some}
use Rattle.std.proofs.Common.{option_map, Bool, true, false, cond, refl, sym, ap, ◌∙◌, subst, arith, nat_eq, flat_map, fold}
use Rattle.std.specs.List.{list_any, range_with_len}
use Rattle.inf_properties.specs.{Properties.inherited, declared.values.Property.Property}
use Rattle.inf_objects.specs.Attributes.{together}
use Rattle.inf_objects.specs.Objects.{has_number, is_lost, joined_classes, new_classes, with_joined_class}
use Rattle.inf_tables.specs.{Objects.class_at, World.WorldOf, World.class_by, World.with_class_of}
use Rattle.inf_world_laws.specs.{Laws.AreSingle, Laws.as_properties, Laws.inherited_above, Whole.ClassesFit}
use Rattle.inf_world_laws.specs.Things.{Thing, and_given, classes_in, contains, distinct, giving, thing_at, with_own}
use Rattle.inf_world_laws.proofs.Order.{drop_out, join, kept, or_nothing, turned, without}
use Rattle.inf_world_laws.proofs.Lookup.{IsClass, Named, class_there, found_within, object_in, thing_is, things_in, things_length, told}
use Rattle.inf_world_laws.proofs.Lists.{numbers_are}

-- Lemmas about truths

or_split : {P : Type 0} (a b : Bool) → (a || b) ≡ true → (a ≡ true → P) → (b ≡ true → P) → P
or_split true b e f g = f refl
or_split false b e f g = g e

or_left : (a b : Bool) → a ≡ true → (a || b) ≡ true
or_left true b e = refl
or_left false b e = absurd (cc e)

or_right : (a b : Bool) → b ≡ true → (a || b) ≡ true
or_right true b e = refl
or_right false b e = e

or_grouped : (a b c : Bool) → ((a || b) || c) ≡ (a || (b || c))
or_grouped true b c = refl
or_grouped false b c = refl

pub or_exchanged : (a b : Bool) → (a || b) ≡ (b || a)
or_exchanged true true = refl
or_exchanged true false = refl
or_exchanged false true = refl
or_exchanged false false = refl

pub same_number : (n m : ℕ) → nat_eq n m ≡ true → n ≡ m
same_number n m e = grind arith

pub is_same : (n : ℕ) → nat_eq n n ≡ true
is_same n = grind arith

-- Lemmas about sets of numbers

pub contains_both : (xs ys : List ℕ) (n : ℕ) → contains (xs ++ ys) n ≡ (contains xs n || contains ys n)
contains_both [] ys n = refl
contains_both (x ∷ xs) ys n =
    ap (λ b. nat_eq n x || b) (contains_both xs ys n) ∙ sym (or_grouped (nat_eq n x) (contains xs n) (contains ys n))

pub or_false : (a : Bool) → (a || false) ≡ a
or_false true = refl
or_false false = refl

-- a list without repeats has the same numbers
pub distinct_has : (xs : List ℕ) (n : ℕ) → contains (distinct [] xs) n ≡ contains xs n
distinct_has xs n = sym (or_false (contains (distinct [] xs) n)) ∙ kept [] xs n ∙ or_false (contains xs n)

pub distinct_both : (l xs ys : List ℕ) → l ≡ distinct [] xs → distinct [] (xs ++ ys) ≡ l ++ distinct l ys
distinct_both l xs ys e = join [] l xs ys (λ n. ap (λ l. contains l n) e ∙ distinct_has xs n ∙ or_nothing (contains xs n))
    ∙ ap (λ k. k ++ distinct l ys) (sym e)

-- of numbers that were all seen none is left
all_seen : (s l : List ℕ) → ((n : ℕ) → contains l n ≡ true → contains s n ≡ true) → distinct s l ≡ []
all_seen s [] h = refl
all_seen s (x ∷ l) h = ap (λ b. cond b (distinct s l) (x ∷ distinct (x ∷ s) l)) (h x (or_left (nat_eq x x) (contains l x) (is_same x)))
    ∙ all_seen s l (λ n e. h n (or_right (nat_eq n x) (contains l n) e))

-- Numbers that are new, each behind those before it, have no repeats.

abbrev AreApart : List ℕ → List ℕ → Type 0
AreApart seen [] = Unit {0}
AreApart seen (n ∷ ns) = (contains seen n ≡ false) × AreApart (n ∷ seen) ns

apart_by : (seen xs : List ℕ) (x : ℕ) → AreApart seen (distinct seen xs) → AreApart (x ∷ seen) (distinct (x ∷ seen) xs) → (b : Bool)
    → contains seen x ≡ b → AreApart seen (cond b (distinct seen xs) (x ∷ distinct (x ∷ seen) xs))
apart_by seen xs x old new true e = old
apart_by seen xs x old new false e = (e, new)

are_apart : (seen xs : List ℕ) → AreApart seen (distinct seen xs)
are_apart seen [] = tt
are_apart seen (x ∷ xs) = apart_by seen xs x (are_apart seen xs) (are_apart (x ∷ seen) xs) (contains seen x) refl

apart_is : (seen l : List ℕ) → AreApart seen l → distinct seen l ≡ l
apart_is seen [] a = refl
apart_is seen (n ∷ l) a = ap (λ b. cond b (distinct seen l) (n ∷ distinct (n ∷ seen) l)) a.0 ∙ ap (λ k. n ∷ k) (apart_is (n ∷ seen) l a.1)

-- taking repeats away twice is taking them away once
pub distinct_again : (xs : List ℕ) → distinct [] (distinct [] xs) ≡ distinct [] xs
distinct_again xs = apart_is [] (distinct [] xs) (are_apart [] xs)

-- Lemmas about classes as the tables have them

has_number_is : (n : ℕ) (l : List ℕ) → has_number n l ≡ contains l n
has_number_is n [] = refl
has_number_is n (m ∷ l) = ap (λ b. b || has_number n l) (turned m n) ∙ ap (λ b. nat_eq n m || b) (has_number_is n l)

new_is : (own : List ℕ) (c : ℕ) (l : List ℕ) → new_classes own c l ≡ without (c ∷ own) l
new_is own c [] = refl
new_is own c (n ∷ l) = ap (λ b. cond b (new_classes own c l) (n ∷ new_classes own c l))
    (ap (λ b. b || has_number n own) (turned n c ∙ exchanged c n) ∙ ap (λ b. nat_eq n c || b) (has_number_is n own))
    ∙ ap (λ k. cond (contains (c ∷ own) n) k (n ∷ k)) (new_is own c l)
  where
    exchanged : (c n : ℕ) → nat_eq c n ≡ nat_eq n c
    exchanged c n = grind arith

-- the class and its own classes behind others, where the class is new
joined_is : (l xs : List ℕ) (c : ℕ) (cs : List ℕ) → l ≡ distinct [] xs → contains l c ≡ false → cs ≡ distinct [] cs
    → joined_classes l c cs ≡ distinct [] (xs ++ c ∷ cs)
joined_is l xs c cs e new single = append_assoc l (c ∷ []) (new_classes l c cs)
    ∙ ap (λ k. l ++ c ∷ k) (new_is l c cs ∙ ap (without (c ∷ l)) single ∙ drop_out (c ∷ l) [] (c ∷ l) cs (λ n. or_nothing (contains (c ∷ l) n)))
    ∙ ap (λ b. l ++ cond b (distinct l cs) (c ∷ distinct (c ∷ l) cs)) (sym new)
    ∙ sym (distinct_both l xs (c ∷ cs) e)

passed_is : (l xs : List ℕ) (ys : List ℕ) → l ≡ distinct [] xs → ((n : ℕ) → contains ys n ≡ true → contains l n ≡ true)
    → l ≡ distinct [] (xs ++ ys)
passed_is l xs ys e h = sym (distinct_both l xs ys e ∙ ap (λ k. l ++ k) (all_seen l ys h) ∙ append-nil l)

-- Lemmas about attributes

abbrev pub flags : (ℕ → Bool) → List Bool
flags f = map f (range_with_len 0 48)

map_same : {A : Type 0} (f g : ℕ → A) (l : List ℕ) → ((n : ℕ) → f n ≡ g n) → map f l ≡ map g l
map_same f g [] h = refl
map_same f g (n ∷ l) h = ap (λ x. x ∷ map f l) (h n) ∙ ap (λ k. g n ∷ k) (map_same f g l h)

together_is : (f g : ℕ → Bool) (l : List ℕ) → together (map f l) (map g l) ≡ map (λ a. f a || g a) l
together_is f g [] = refl
together_is f g (n ∷ l) = ap (λ k. (f n || g n) ∷ k) (together_is f g l)

-- Lemmas about things whose classes are all there

pub record IsClosed (before : List Thing) (l : List ℕ) : Type 0 where
  pub within : (c : ℕ) → contains l c ≡ true → c < 5 + length before
  pub closed : (c n : ℕ) → contains l c ≡ true → contains (classes_in (thing_at c before)) n ≡ true → contains l n ≡ true

pub record IsWhole (before : List Thing) (t : Thing) : Type 0 where
  pub classes : IsClosed before t.classes
  pub single : t.classes ≡ distinct [] t.classes
  pub properties : map (λ p. p.0) t.properties ≡ distinct [] (map (λ p. p.0) t.properties)

abbrev pub AreWhole : List Thing → Type 0
AreWhole before = (c : ℕ) (t : Thing) → thing_at c before ≡ Some t → IsWhole before t

pub nothing_closed : (before : List Thing) → IsClosed before []
nothing_closed before = record { within = λ c e. absurd (cc e); closed = λ c n e f. absurd (cc e) }

-- a class with its own classes is joined to a list
closed_joined : (before : List Thing) (l k : List ℕ) (c : ℕ) (t : Thing) → thing_at c before ≡ Some t → c < 5 + length before
    → IsClosed before l → IsClosed before t.classes
    → ((n : ℕ) → contains k n ≡ (contains l n || contains (c ∷ t.classes) n)) → IsClosed before k
closed_joined before l k c t at there old own m = record {
  within = λ d e. or_split (contains l d) (contains (c ∷ t.classes) d) (sym (m d) ∙ e) (old.within d) (λ f.
      or_split (nat_eq d c) (contains t.classes d) f
      (λ g. subst (λ x. x < 5 + length before) (sym (same_number d c g)) there) (own.within d));
  closed = λ d n e h. m n ∙ or_split (contains l d) (contains (c ∷ t.classes) d) (sym (m d) ∙ e)
      (λ f. or_left (contains l n) (contains (c ∷ t.classes) n) (old.closed d n f h))
      (λ f.
      or_right (contains l n) (contains (c ∷ t.classes) n)
      (or_right (nat_eq n c) (contains t.classes n)
      (or_split (nat_eq d c) (contains t.classes d) f
      (λ g. sym (ap (λ x. contains (classes_in (thing_at x before)) n) (same_number d c g)
      ∙ ap (λ o. contains (classes_in o) n) at) ∙ h)
      (λ g. own.closed d n g h))));
}

-- Lemmas about all classes that a body names

module _ (additive : ℕ → Bool) where
  -- the body with a list of classes, with what they have of attributes, and with their properties
  abbrev pub classed : WorldOf → List ℕ → List Bool → List Property → WorldOf
  classed v l attributes above =
      record v { body = record v.body { classes = l; above = attributes; properties = record v.body.properties { above = above } } }

  abbrev pub joined_to : WorldOf → List ℕ → List Bool → List Property → ℕ → Thing → WorldOf
  joined_to v l attributes above c t =
      classed v (joined_classes l c t.classes) (together attributes (flags t.has)) (inherited above (as_properties additive t.properties))

  class_step : (all : List Named) (v : WorldOf) (l : List ℕ) (attributes : List Bool) (above : List Property) (c : ℕ)
      → is_lost v.body.properties.owner ≡ false → (c == 0) ≡ false → (i : IsClass additive c all v)
      → with_class_of c (classed v l attributes above)
      ≡ cond (contains l c) (classed v l attributes above) (joined_to v l attributes above c i.named.1)
  class_step all v l attributes above c owned some i =
      let w = classed v l attributes above in
      ap (λ b. cond b w (class_by (class_at c v.objects) c w)) some
      ∙ ap (λ o. class_by o c w) i.found
      ∙ ap (λ b. record w { body = cond (b || has_number c l) w.body (with_joined_class c (object_in additive i.named) w.body) }) owned
      ∙ ap (λ b. record w { body = cond b w.body (with_joined_class c (object_in additive i.named) w.body) }) (has_number_is c l)
      ∙ chosen (contains l c)
    where
      chosen : (b : Bool) → record (classed v l attributes above) {
        body = cond b (classed v l attributes above).body
            (with_joined_class c (object_in additive i.named) (classed v l attributes above).body);
      } ≡ cond b (classed v l attributes above) (joined_to v l attributes above c i.named.1)
      chosen true = refl
      chosen false = refl

  pub record JoinedBy (all : List Named) (v : WorldOf) (named l : List ℕ) (f : ℕ → Bool) (above : List Property) (ys : List ℕ)
      (givers : List Thing) : Type 0 where
    pub is : fold (λ w c. with_class_of c w) (classed v l (flags f) above) named
        ≡ classed v (distinct [] ys) (flags (λ a. f a || list_any (λ c. c.has a) givers))
        (inherited_above additive above (map (λ c. c.properties) givers))
    pub closed : IsClosed (things_in all) (distinct [] ys)
    pub single : AreSingle (map (as_properties additive) (map (λ c. c.properties) givers))

  -- all classes that are named, behind those of a list, where some were seen
  abbrev pub Joined : List Named → WorldOf → List ℕ → List ℕ → List ℕ → List ℕ → (ℕ → Bool) → List Property → Type 0
  Joined all v named l xs seen f above =
      JoinedBy all v named l f above (xs ++ flat_map (with_own (things_in all)) named) (giving (things_in all) seen named)

  module _ (all : List Named) (v : WorldOf) (are : v.objects ≡ told additive all)
      (owned : is_lost v.body.properties.owner ≡ false) (whole : AreWhole (things_in all)) where
    abbrev Rest : List ℕ → Type 0
    Rest named =
        (l xs seen : List ℕ) (f : ℕ → Bool) (above : List Property) → l ≡ distinct [] xs → ((n : ℕ) → contains seen n ≡ contains l n)
        → IsClosed (things_in all) l → ClassesFit named v.objects → Joined all v named l xs seen f above

    class_more : (named : List ℕ) (c : ℕ) (l xs seen : List ℕ) (f : ℕ → Bool) (above : List Property) → Rest named → l ≡ distinct [] xs
        → ((n : ℕ) → contains seen n ≡ contains l n) → IsClosed (things_in all) l → (j : IsClass additive c all v) → (b : Bool)
        → contains l c ≡ b
        → with_class_of c (classed v l (flags f) above)
        ≡ cond b (classed v l (flags f) above) (joined_to v l (flags f) above c j.named.1)
        → ClassesFit named v.objects
        → Joined all v (c ∷ named) l xs seen f above
    class_more named c l xs seen f above rest e same closed j true there step fits =
        let before = things_in all in
        let own = with_own before c in
        let at : l ≡ distinct [] (xs ++ own) =
        passed_is l xs own e (λ n h. or_split (nat_eq n c) (contains (classes_in (thing_at c before)) n) h
        (λ g. ap (contains l) (same_number n c g) ∙ there) (λ g. closed.closed c n there g)) in
        let r = rest l (xs ++ own) seen f above at same closed fits in
        let others = flat_map (with_own before) named in
        let skip : giving before seen (c ∷ named) ≡ giving before seen named =
        ap (λ b. cond b (giving before seen named) (and_given (thing_at c before) (giving before (own ++ seen) named))) (same c ∙ there) in
        subst (λ g. JoinedBy all v (c ∷ named) l f above (xs ++ (own ++ others)) g) (sym skip)
        (subst (λ ys. JoinedBy all v (c ∷ named) l f above ys (giving before seen named)) (append_assoc xs own others) (record {
          is = ap (λ w. fold (λ w c. with_class_of c w) w named) step ∙ r.is;
          closed = r.closed;
          single = r.single;
        }))
    class_more named c l xs seen f above rest e same closed j false new step fits =
        let before = things_in all in
        let t = j.named.1 in
        let own = with_own before c in
        let at : thing_at c before ≡ Some t = thing_is c all ∙ ap (option_map (λ p. p.1)) j.there in
        let own_is : own ≡ c ∷ t.classes = ap (λ o. c ∷ classes_in o) at in
        let w = whole c t at in
        let k = joined_classes l c t.classes in
        let k_is : k ≡ distinct [] (xs ++ own) = joined_is l xs c t.classes e new w.single ∙ ap (λ o. distinct [] (xs ++ o)) (sym own_is) in
        let has_own : (n : ℕ) → contains k n ≡ (contains l n || contains own n) =
        λ n. ap (λ o. contains o n) k_is ∙ distinct_has (xs ++ own) n ∙ contains_both xs own n
        ∙ ap (λ b. b || contains own n) (sym (distinct_has xs n) ∙ sym (ap (λ o. contains o n) e)) in
        let below : c < 5 + length before = subst (λ n. c < 5 + n) (sym (things_length all)) (found_within c all j.named j.there) in
        let g : ℕ → Bool = λ a. f a || t.has a in
        let higher = inherited above (as_properties additive t.properties) in
        let flags_are : together (flags f) (flags t.has) ≡ flags g = together_is f t.has (range_with_len 0 48) in
        let r = rest k (xs ++ own) (own ++ seen) g higher k_is
        (λ n. contains_both own seen n ∙ ap (λ b. contains own n || b) (same n) ∙ or_exchanged (contains own n) (contains l n)
        ∙ sym (has_own n))
        (closed_joined before l k c t at below closed w.classes (λ n. has_own n ∙ ap (λ o. contains l n || contains o n) own_is))
        fits in
        let others = flat_map (with_own before) named in
        let givers = giving before (own ++ seen) named in
        let taken : giving before seen (c ∷ named) ≡ t ∷ givers =
        ap (λ b. cond b (giving before seen named) (and_given (thing_at c before) givers)) (same c ∙ new)
        ∙ ap (λ o. and_given o givers) at in
        subst (λ g. JoinedBy all v (c ∷ named) l f above (xs ++ (own ++ others)) g) (sym taken)
        (subst (λ ys. JoinedBy all v (c ∷ named) l f above ys (t ∷ givers)) (append_assoc xs own others) (record {
          is = ap (λ w. fold (λ w c. with_class_of c w) w named) (step ∙ ap (λ a. classed v k a higher) flags_are) ∙ r.is
              ∙ ap (λ a. classed v (distinct [] ((xs ++ own) ++ others)) a
              (inherited_above additive higher (map (λ c. c.properties) givers)))
              (map_same (λ a. g a || list_any (λ c. c.has a) givers) (λ a. f a || list_any (λ c. c.has a) (t ∷ givers))
              (range_with_len 0 48) (λ a. or_grouped (f a) (t.has a) (list_any (λ c. c.has a) givers)));
          closed = r.closed;
          single = (
            numbers_are additive t.properties ∙ w.properties ∙ ap (distinct []) (sym (numbers_are additive t.properties)),
            r.single,
          );
        }))

    pub all_classes : (named : List ℕ) → Rest named
    all_classes [] l xs seen f above e same closed fits =
        let none : l ≡ distinct [] (xs ++ []) = e ∙ ap (distinct []) (sym (append-nil xs)) in
        record {
          is = ap (λ k. classed v k (flags f) above) none ∙ ap (λ a. classed v (distinct [] (xs ++ [])) a above)
              (map_same f (λ a. f a || false) (range_with_len 0 48) (λ a. or_nothing (f a)));
          closed = subst (λ k. IsClosed (things_in all) k) none closed;
          single = tt;
        }
    all_classes (c ∷ named) l xs seen f above e same closed fits =
        let j = class_there additive c all v are fits.0.1 in
        let step = class_step all v l (flags f) above c owned fits.0.0 j in
        class_more named c l xs seen f above (all_classes named) e same closed j (contains l c) refl step
        fits.1
