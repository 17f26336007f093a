-- The property that an object has of a number.
use Rattle.std.proofs.Common.{◌≡◌, ◌≤◌, ◌∷◌, ◌++◌, ◌==◌, [], ℕ, length, sym, subst, List, Bool, true, false, Option, Some, None, refl, ap}
use Rattle.std.proofs.Common.{◌∙◌, is_some, option_map, IfSome, ◌||◌, if◌then◌else◌}
use Rattle.std.proofs.lemmas.Bool.{eqb-true, leb-true, and_parts}
use Rattle.inf_area.specs.declared.targets.Value.{Value}
use Rattle.inf_properties.specs.{Sizes.are_short, Sizes.is_short, Values.with_last_value, declared.values.Property.Property}
use Rattle.inf_properties.specs.Properties.{AreFree, found, found_or_above, has, inherited, is_reserved, joined, lacked, with_joined}
use Rattle.inf_properties.proofs.Inheriting.{has-push_other}

-- the first of two
abbrev pub or_found : Option Property → Option Property → Option Property
or_found None other = other
or_found (Some p) other = Some p

pub found-append : (n : ℕ) (xs ys : List Property) → found n (xs ++ ys) ≡ or_found (found n xs) (found n ys)
found-append n [] ys = refl
found-append n (x ∷ xs) ys = go (x.number == n) (found-append n xs ys) where
  go : (b : Bool) → found n (xs ++ ys) ≡ or_found (found n xs) (found n ys)
      → (if b then Some x else found n (xs ++ ys)) ≡ or_found (if b then Some x else found n xs) (found n ys)
  go true later = refl
  go false later = later

abbrev joined_option : List Property → Option Property → Option Property
joined_option above None = None
joined_option above (Some p) = Some (joined above p)

found-with_joined : (n : ℕ) (above own : List Property) → found n (with_joined above own) ≡ joined_option above (found n own)
found-with_joined n above [] = refl
found-with_joined n above (p ∷ own) = go (p.number == n) (found-with_joined n above own) where
  go : (b : Bool) → found n (with_joined above own) ≡ joined_option above (found n own)
      → (if b then Some (joined above p) else found n (with_joined above own)) ≡ joined_option above (if b then Some p else found n own)
  go true later = refl
  go false later = later

found-lacked : (n : ℕ) (own above : List Property) → has n own ≡ false → found n (lacked own above) ≡ found n above
found-lacked n own [] e = refl
found-lacked n own (p ∷ above) e = go (p.number == n) (has p.number own) refl refl (found-lacked n own above e) where
  go : (b a : Bool) → (p.number == n) ≡ b → has p.number own ≡ a → found n (lacked own above) ≡ found n above
      → found n (if a then lacked own above else p ∷ lacked own above) ≡ (if b then Some p else found n above)
  go true true same taken later = let no = ap (λ k. has k own) (eqb-true p.number n same) in cc
  go true false same taken later = ap (λ (c : Bool). if c then Some p else found n (lacked own above)) same
  go false true other taken later = later
  go false false other taken later = ap (λ (c : Bool). if c then Some p else found n (lacked own above)) other ∙ later

pub found-inherited : (own above : List Property) (n : ℕ) → found n (inherited own above) ≡ found_or_above n (found n own) above
found-inherited own above n = found-append n (with_joined above own) (lacked own above)
    ∙ ap (λ o. or_found o (found n (lacked own above))) (found-with_joined n above own) ∙ go (found n own) refl
  where
    go : (o : Option Property) → found n own ≡ o → or_found (joined_option above o) (found n (lacked own above)) ≡ found_or_above n o above
    go None none = found-lacked n own above (ap is_some none)
    go (Some p) some = refl

absent_both : (own above : List Property) (n : ℕ) → has n own ≡ false → has n above ≡ false → has n (inherited own above) ≡ false
absent_both own above n e h = ap is_some (found-inherited own above n) ∙ go (found n own) e where
  go : (o : Option Property) → is_some o ≡ false → is_some (found_or_above n o above) ≡ false
  go None absent = h
  go (Some p) there = cc

pub AreFree-inherited : (own above : List Property) → AreFree own → AreFree above → AreFree (inherited own above)
AreFree-inherited own above h k = record {
  no_classes = absent_both own above 2 h.no_classes k.no_classes;
  no_address = absent_both own above 3 h.no_address k.no_address;
}

neither : (a b : Bool) → (a || b) ≡ false → (a ≡ false) × (b ≡ false)
neither true b e = cc
neither false b e = (refl, e)

pub AreFree-push : (own : List Property) (p : Property) → AreFree own → is_reserved p.number ≡ false → AreFree (own ++ p ∷ [])
AreFree-push own p h e =
    let other = neither (p.number == 2) (p.number == 3) e in
    record { no_classes = has-push_other p own 2 other.0 ∙ h.no_classes; no_address = has-push_other p own 3 other.1 ∙ h.no_address }

-- a further value changes no number
has-valued : (v : Value) (ps : List Property) (n : ℕ) → has n (with_last_value v ps) ≡ has n ps
has-valued v [] n = refl
has-valued v (p ∷ []) n = go (p.number == n) where
  go : (b : Bool) →
      is_some (if b then Some (record p { values = p.values ++ v ∷ [] }) else found n []) ≡ is_some (if b then Some p else found n [])
  go true = refl
  go false = refl
has-valued v (p ∷ q ∷ ps) n = go (p.number == n) (has-valued v (q ∷ ps) n) where
  go : (b : Bool) → has n (with_last_value v (q ∷ ps)) ≡ has n (q ∷ ps)
      → is_some (if b then Some p else found n (with_last_value v (q ∷ ps))) ≡ is_some (if b then Some p else found n (q ∷ ps))
  go true later = refl
  go false later = later

pub AreFree-valued : (v : Value) (ps : List Property) → AreFree ps → AreFree (with_last_value v ps)
AreFree-valued v ps h = record { no_classes = has-valued v ps 2 ∙ h.no_classes; no_address = has-valued v ps 3 ∙ h.no_address }

pub found_one : (n : ℕ) (ps : List Property) (p : Property) → found n ps ≡ Some p → are_short ps ≡ true →
    (p.number ≡ n) × (length p.values ≤ 32)
found_one n [] p is short = cc
found_one n (q ∷ ps) p is short = go (q.number == n) refl is (found_one n ps p) where
  parts : (is_short q ≡ true) × (are_short ps ≡ true)
  parts = and_parts (is_short q) (are_short ps) short

  go : (b : Bool) → (q.number == n) ≡ b → (if b then Some q else found n ps) ≡ Some p
      → (found n ps ≡ Some p → are_short ps ≡ true → (p.number ≡ n) × (length p.values ≤ 32)) → (p.number ≡ n) × (length p.values ≤ 32)
  go true same is later =
      let this : q ≡ p = cc in
      subst (λ (r : Property). (r.number ≡ n) × (length r.values ≤ 32)) this
      (eqb-true q.number n same, leb-true (length q.values) 32 parts.0)
  go false other is later = later is parts.1

module _ {A : Type 0} where
  -- what is found, seen through a reference, has the number
  pub found_number : (f : A → Property) (o : Option A) (n : ℕ) (ps : List Property) → option_map f o ≡ found n ps → are_short ps ≡ true →
      IfSome o (λ a. (f a).number ≡ n)
  found_number f None n ps is short = tt
  found_number f (Some a) n ps is short = (found_one n ps (f a) (sym is) short).0

  pub found_short : (f : A → Property) (o : Option A) (n : ℕ) (ps : List Property) → option_map f o ≡ found n ps → are_short ps ≡ true →
      IfSome o (λ a. length (f a).values ≤ 32)
  found_short f None n ps is short = tt
  found_short f (Some a) n ps is short = (found_one n ps (f a) (sym is) short).1
