-- Properties of a body, one by one: they are those of the description, and names of individual properties have its numbers.
use Rattle.std.proofs.Common.{◌≡◌, ℕ, ◌+◌, ◌==◌, ◌||◌, List, [], ◌∷◌, ◌++◌, append_assoc, append-nil, length, map, option_map, Option, Some, None}
use Rattle.std.proofs.Common.{Bool, true, false, cond, not, refl, sym, ap, ◌∙◌, subst, arith, nat_eq, fold, is_some}
use Rattle.std.proofs.lemmas.List.{length_push}
use Rattle.std.specs.List.{position_or_len}
use Rattle.inf_area.specs.declared.targets.Value.{Value}
use Rattle.inf_properties.specs.{Open.given_first, Open.with_given, Properties.has, Values.with_last_value}
use Rattle.inf_properties.specs.declared.values.Property.{Property}
use Rattle.inf_objects.specs.Objects.{is_lost}
use Rattle.inf_tables.specs.World.{WorldOf, given_of, kind_of, with_given_property, with_individual}
use Rattle.inf_tables.specs.World.{lost_given, with_properties}
use Rattle.inf_world_laws.specs.Declaring.{Run, given, given_as, given_values, number_in, property, with_values}
use Rattle.inf_world_laws.specs.{Laws.as_properties, Laws.numbers_of}
use Rattle.inf_world_laws.specs.Things.{Declared, Individual, PropertyName, contains, distinct, names_in, number_of}
use Rattle.inf_world_laws.specs.Whole.{AreKinds, GivenFits, IndividualFits, PropertiesFit, PropertyFits}
use Rattle.inf_world_laws.proofs.Order.{again, has_is, or_nothing}
use Rattle.inf_world_laws.proofs.Classes.{contains_both, distinct_both, distinct_has, is_same, or_exchanged, or_false, same_number}

-- Lemmas about places of names

position_at : (x : ℕ) (l zs : List ℕ) → contains l x ≡ false → position_or_len (nat_eq x) (l ++ x ∷ zs) ≡ length l
position_at x [] zs new = ap (λ b. cond (not b) (1 + position_or_len (nat_eq x) zs) 0) (is_same x)
position_at x (y ∷ l) zs new = by (nat_eq x y) refl new (position_at x l zs)
  where
    by : (b : Bool) → nat_eq x y ≡ b → (b || contains l x) ≡ false
        → (contains l x ≡ false → position_or_len (nat_eq x) (l ++ x ∷ zs) ≡ length l)
        → cond (not (nat_eq x y)) (1 + position_or_len (nat_eq x) (l ++ x ∷ zs)) 0 ≡ length (y ∷ l)
    by true e h rest = absurd (cc h)
    by false e h rest = ap (λ b. cond (not b) (1 + position_or_len (nat_eq x) (l ++ x ∷ zs)) 0) e
        ∙ ap (λ n. 1 + n) (rest h) ∙ (let one : 1 + length l ≡ length (y ∷ l) = omega arith in one)

-- a name that is new stands behind all names before it
new_place : (x : ℕ) (done rest : List ℕ) → contains done x ≡ false
    → position_or_len (nat_eq x) (distinct [] (done ++ x ∷ rest)) ≡ length (distinct [] done)
new_place x done rest new =
    let d = distinct [] done in
    let lacks : contains d x ≡ false = distinct_has done x ∙ new in
    ap (position_or_len (nat_eq x)) (distinct_both d done (x ∷ rest) refl
    ∙ ap (λ b. d ++ cond b (distinct d rest) (x ∷ distinct (x ∷ d) rest)) lacks)
    ∙ position_at x d (distinct (x ∷ d) rest) lacks

-- one more name, which came before or did not
one_name : (x : ℕ) (done : List ℕ) → distinct [] (done ++ x ∷ []) ≡ cond (contains done x) (distinct [] done) (distinct [] done ++ x ∷ [])
one_name x done =
    let d = distinct [] done in
    distinct_both d done (x ∷ []) refl
    ∙ ap (λ b. d ++ cond b [] (x ∷ [])) (distinct_has done x)
    ∙ by (contains done x)
  where
    by : (b : Bool) → distinct [] done ++ cond b [] (x ∷ []) ≡ cond b (distinct [] done) (distinct [] done ++ x ∷ [])
    by true = append-nil (distinct [] done)
    by false = refl

has_more : (x y : ℕ) (done : List ℕ) → contains (done ++ x ∷ []) y ≡ (nat_eq y x || contains done y)
has_more x y done = contains_both done (x ∷ []) y ∙ ap (λ b. contains done y || b) (or_false (nat_eq y x))
    ∙ or_exchanged (contains done y) (nat_eq y x)

-- the names that came, and the numbers that they have
pub record Numbered (names done : List ℕ) (count : ℕ) (numbers : List (ℕ × ℕ)) : Type 0 where
  pub counted : count ≡ length (distinct [] done)
  pub known : (x : ℕ) → number_in x numbers ≡ cond (contains done x) (Some (number_of names (Individual x))) None

numbered_again : (names done : List ℕ) (count : ℕ) (numbers : List (ℕ × ℕ)) (x : ℕ) → Numbered names done count numbers
    → contains done x ≡ true → Numbered names (done ++ x ∷ []) count numbers
numbered_again names done count numbers x i there = record {
  counted = i.counted ∙ ap length (sym (one_name x done ∙ ap (λ b. cond b (distinct [] done) (distinct [] done ++ x ∷ [])) there));
  known = λ y. i.known y ∙ ap (λ b. cond b (Some (number_of names (Individual y))) None) (again done x y there ∙ sym (has_more x y done));
}

numbered_new : (names done : List ℕ) (count : ℕ) (numbers : List (ℕ × ℕ)) (x : ℕ) → Numbered names done count numbers
    → contains done x ≡ false → 64 + count ≡ number_of names (Individual x)
    → Numbered names (done ++ x ∷ []) (count + 1) ((x, 64 + count) ∷ numbers)
numbered_new names done count numbers x i new number = record {
  counted = ap (λ n. n + 1) i.counted ∙ sym (ap length (one_name x done
      ∙ ap (λ b. cond b (distinct [] done) (distinct [] done ++ x ∷ [])) new) ∙ length_push (distinct [] done) x);
  known = λ y. by y (x == y) refl;
}
  where
    by : (y : ℕ) (b : Bool) → (x == y) ≡ b → cond b (Some (64 + count)) (number_in y numbers)
        ≡ cond (contains (done ++ x ∷ []) y) (Some (number_of names (Individual y))) None
    by y true e =
        let same : y ≡ x = grind arith in
        let equal : nat_eq y x ≡ true = grind arith in
        ap Some number ∙ ap (λ z. Some (number_of names (Individual z))) (sym same)
        ∙ ap (λ b. cond b (Some (number_of names (Individual y))) None) (sym (has_more x y done ∙ ap (λ b. b || contains done y) equal))
    by y false e =
        let other : nat_eq y x ≡ false = grind arith in
        i.known y
        ∙ ap (λ b. cond b (Some (number_of names (Individual y))) None) (sym (has_more x y done ∙ ap (λ b. b || contains done y) other))

-- Lemmas about one property

last_value : (own : List Property) (q : Property) (x : Value)
    → with_last_value x (own ++ q ∷ []) ≡ own ++ record q { values = q.values ++ x ∷ [] } ∷ []
last_value [] q x = refl
last_value (p ∷ []) q x = refl
last_value (p ∷ r ∷ own) q x = ap (λ l. p ∷ l) (last_value (r ∷ own) q x)

module _ (additive : ℕ → Bool) (v : WorldOf) (kinds : AreKinds additive v)
    (owned : is_lost v.body.properties.owner ≡ false) where
  -- the body with properties of its own, where a number of individual ones was declared
  abbrev pub placed : ℕ → List Property → Bool → WorldOf
  placed count own takes =
      record v { individuals = count; body = record v.body { properties = record v.body.properties { own = own; takes_values = takes } } }

  pub record Fits (n : ℕ) (w : WorldOf) : Type 0 where
    pub kind : kind_of n w ≡ Some (additive n)
    pub new : has n w.body.properties.own ≡ false

  kind_by : (n count : ℕ) (own : List Property) (takes : Bool) (k : Option Bool) → kind_of n (placed count own takes) ≡ k
      → is_some k ≡ true → kind_of n (placed count own takes) ≡ Some (additive n)
  kind_by n count own takes None e h = absurd (cc h)
  kind_by n count own takes (Some b) e h = e ∙ ap Some (kinds count n b e)

  given_fits : (n count : ℕ) (own : List Property) (takes : Bool) → GivenFits n (placed count own takes) → Fits n (placed count own takes)
  given_fits n count own takes h =
      record { kind = kind_by n count own takes (kind_of n (placed count own takes)) refl h.0; new = h.1 }

  values_placed : (n count : ℕ) (own : List Property) (us values : List Value)
      → with_values values (placed count (own ++ property additive n us ∷ []) true)
      ≡ placed count (own ++ property additive n (us ++ values) ∷ []) true
  values_placed n count own us [] = ap (λ u. placed count (own ++ property additive n u ∷ []) true) (sym (append-nil us))
  values_placed n count own us (x ∷ values) = ap (λ l. with_values values (placed count l true)) (last_value own (property additive n us) x)
      ∙ values_placed n count own (us ++ x ∷ []) values
      ∙ ap (λ u. placed count (own ++ property additive n u ∷ []) true) (append_assoc us (x ∷ []) values)

  first_placed : (n count : ℕ) (own : List Property) (takes : Bool) (first : Option Value) → Fits n (placed count own takes)
      → with_given_property n first (placed count own takes) ≡ placed count (own ++ given_first n (additive n) first ∷ []) true
  first_placed n count own takes first f =
      let w = placed count own takes in
      ap (λ k. given_of k n first w) f.kind
      ∙ ap (λ b. with_properties (cond b (lost_given n w.body.properties)
      (with_given (given_first n (additive n) first) w.body.properties)) w) owned

  given_placed : (n count : ℕ) (own : List Property) (takes : Bool) (values : List Value) → Fits n (placed count own takes)
      → given_values n values (placed count own takes) ≡ placed count (own ++ property additive n values ∷ []) true
  given_placed n count own takes [] f = first_placed n count own takes None f
  given_placed n count own takes (x ∷ values) f =
      ap (with_values values) (first_placed n count own takes (Some x) f) ∙ values_placed n count own (x ∷ []) values

  -- Lemmas about all properties

  abbrev IsSingle : List Property → Type 0
  IsSingle own = numbers_of own ≡ distinct [] (numbers_of own)

  numbers_push : (own : List Property) (p : Property) → numbers_of (own ++ p ∷ []) ≡ numbers_of own ++ p.number ∷ []
  numbers_push [] p = refl
  numbers_push (q ∷ own) p = ap (λ l. q.number ∷ l) (numbers_push own p)

  single_push : (own : List Property) (n : ℕ) (values : List Value) → IsSingle own → has n own ≡ false
      → IsSingle (own ++ property additive n values ∷ [])
  single_push own n values single new =
      let l = numbers_of own in
      let lacks : contains l n ≡ false = sym (has_is n own) ∙ new in
      numbers_push own (property additive n values)
      ∙ ap (λ k. k ++ n ∷ []) single
      ∙ sym (ap (distinct []) (numbers_push own (property additive n values))
      ∙ one_name n l ∙ ap (λ b. cond b (distinct [] l) (distinct [] l ++ n ∷ [])) lacks)

  pub record One (names done : List ℕ) (own : List Property) (p : PropertyName × List Value) (r : Run) : Type 0 where
    pub count : ℕ
    pub numbers : List (ℕ × ℕ)
    pub is : given p r ≡ record { world = placed count (own ++ property additive (number_of names p.0) p.1 ∷ []) true; numbers = numbers }
    pub numbered : Numbered names (done ++ names_in (p ∷ [])) count numbers
    pub new : has (number_of names p.0) own ≡ false

  individual_by : (names done rest : List ℕ) (x : ℕ) (values : List Value) (count : ℕ) (own : List Property) (takes : Bool)
      (numbers : List (ℕ × ℕ)) → names ≡ distinct [] (done ++ x ∷ rest) → Numbered names done count numbers
      → (b : Bool) → contains done x ≡ b
      → IndividualFits (cond b (Some (number_of names (Individual x))) None) (placed count own takes)
      → One names done own (Individual x, values) (record { world = placed count own takes; numbers = numbers })
  individual_by names done rest x values count own takes numbers e i true there h =
      let n = number_of names (Individual x) in
      let f = given_fits n count own takes h in
      record {
        count = count;
        numbers = numbers;
        is = ap (λ o. given_as o x values (record { world = placed count own takes; numbers = numbers }))
            (i.known x ∙ ap (λ b. cond b (Some n) None) there)
            ∙ ap (λ w. record { world = w; numbers = numbers }) (given_placed n count own takes values f);
        numbered = numbered_again names done count numbers x i there;
        new = f.new;
      }
  individual_by names done rest x values count own takes numbers e i false new h =
      let n = number_of names (Individual x) in
      let number : 64 + count ≡ n =
      ap (λ k. 64 + k) (i.counted ∙ sym (new_place x done rest new)) ∙ ap (λ l. 64 + position_or_len (nat_eq x) l) (sym e) in
      let f = given_fits (64 + count) (count + 1) own takes h in
      record {
        count = count + 1;
        numbers = (x, 64 + count) ∷ numbers;
        is = ap (λ o. given_as o x values (record { world = placed count own takes; numbers = numbers }))
            (i.known x ∙ ap (λ b. cond b (Some n) None) new)
            ∙ ap (λ w. record { world = w; numbers = (x, 64 + count) ∷ numbers })
            (given_placed (64 + count) (count + 1) own takes values f
            ∙ ap (λ k. placed (count + 1) (own ++ property additive k values ∷ []) true) number);
        numbered = numbered_new names done count numbers x i new number;
        new = ap (λ k. has k own) (sym number) ∙ f.new;
      }

  given_one : (names done rest : List ℕ) (p : PropertyName × List Value) (count : ℕ) (own : List Property) (takes : Bool)
      (numbers : List (ℕ × ℕ)) → names ≡ distinct [] (done ++ (names_in (p ∷ []) ++ rest)) → Numbered names done count numbers
      → PropertyFits p.0 (record { world = placed count own takes; numbers = numbers })
      → One names done own p (record { world = placed count own takes; numbers = numbers })
  given_one names done rest (Declared n, values) count own takes numbers e i h =
      let f = given_fits n count own takes h in
      record {
        count = count;
        numbers = numbers;
        is = ap (λ w. record { world = w; numbers = numbers }) (given_placed n count own takes values f);
        numbered = subst (λ d. Numbered names d count numbers) (sym (append-nil done)) i;
        new = f.new;
      }
  given_one names done rest (Individual x, values) count own takes numbers e i h =
      individual_by names done rest x values count own takes numbers e i (contains done x) refl
      (subst (λ o. IndividualFits o (placed count own takes)) (i.known x) h)

  abbrev pub as_given : List ℕ → List (PropertyName × List Value) → List Property
  as_given names with = as_properties additive (map (λ p. (number_of names p.0, p.1)) with)

  pub record All (names done : List ℕ) (own : List Property) (with : List (PropertyName × List Value)) (r : Run) : Type 0 where
    pub count : ℕ
    pub takes : Bool
    pub numbers : List (ℕ × ℕ)
    pub is : fold (λ r p. given p r) r with ≡ record { world = placed count (own ++ as_given names with) takes; numbers = numbers }
    pub numbered : Numbered names (done ++ names_in with) count numbers
    pub single : IsSingle (own ++ as_given names with)

  names_both : (p : PropertyName × List Value) (with : List (PropertyName × List Value))
      → names_in (p ∷ with) ≡ names_in (p ∷ []) ++ names_in with
  names_both (Declared n, values) with = refl
  names_both (Individual x, values) with = refl

  pub all_given : (with : List (PropertyName × List Value)) (names done rest : List ℕ) (count : ℕ) (own : List Property) (takes : Bool)
      (numbers : List (ℕ × ℕ)) → names ≡ distinct [] (done ++ (names_in with ++ rest)) → Numbered names done count numbers → IsSingle own
      → PropertiesFit with (record { world = placed count own takes; numbers = numbers })
      → All names done own with (record { world = placed count own takes; numbers = numbers })
  all_given [] names done rest count own takes numbers e i single h = record {
    count = count;
    takes = takes;
    numbers = numbers;
    is = ap (λ l. record { world = placed count l takes; numbers = numbers }) (sym (append-nil own));
    numbered = subst (λ d. Numbered names d count numbers) (sym (append-nil done)) i;
    single = subst IsSingle (sym (append-nil own)) single;
  }
  all_given (p ∷ with) names done rest count own takes numbers e i single h =
      let first = names_in (p ∷ []) in
      let parts : done ++ (names_in (p ∷ with) ++ rest) ≡ done ++ (first ++ (names_in with ++ rest)) =
      ap (λ l. done ++ (l ++ rest)) (names_both p with) ∙ ap (λ l. done ++ l) (append_assoc first (names_in with) rest) in
      let o = given_one names done (names_in with ++ rest) p count own takes numbers (e ∙ ap (distinct []) parts) i h.0 in
      let q = property additive (number_of names p.0) p.1 in
      let a = all_given with names (done ++ first) rest o.count (own ++ q ∷ []) true o.numbers
      (e ∙ ap (distinct []) (parts ∙ sym (append_assoc done first (names_in with ++ rest)))) o.numbered
      (single_push own (number_of names p.0) p.1 single o.new)
      (subst (PropertiesFit with) o.is h.1) in
      let owns : (own ++ q ∷ []) ++ as_given names with ≡ own ++ as_given names (p ∷ with) = append_assoc own (q ∷ []) (as_given names with) in
      record {
        count = a.count;
        takes = a.takes;
        numbers = a.numbers;
        is = ap (λ r. fold (λ r p. given p r) r with) o.is ∙ a.is
            ∙ ap (λ l. record { world = placed a.count l a.takes; numbers = a.numbers }) owns;
        numbered = subst (λ d. Numbered names d a.count a.numbers)
            (append_assoc done first (names_in with) ∙ ap (λ l. done ++ l) (sym (names_both p with))) a.numbered;
        single = subst IsSingle owns a.single;
      }
